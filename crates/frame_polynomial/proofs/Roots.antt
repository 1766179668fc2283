-- The generator: it has 45 coefficients, the highest one, and is zero at the 44 powers of alpha from 1 on. So a remainder by it has the value of what was divided, and
-- data with their parity behind them are zero there.
use mathlib.Core.Path.{◌≡◌, refl, sym, ap, ap₂, ◌∙◌, subst}
use mathlib.Core.Bool.{Bool, true, false}
use mathlib.Core.List.{List, [], ◌∷◌, ◌++◌}
use Prim.Native.Nat.{ℕ, zero, suc, ◌+◌, ◌*◌, ◌<◌}
use native.Mathlib.Nat.{not-suc-le-zero}
use native.Mathlib.Omega.{arith}
use lib.Dec.{eqb}
use borrow.Author.Tests.{eqb-true, eqb-false}
use lib.Bits.{xor_self, xor_zero_l, xor_zero_r}
use lib.ListN.{length, drop, replicate, length-map}
use Rattle.polynomials.specs.Polynomials.{plus, scaled, multiplied, divided, remainder_by}
use Rattle.polynomials.proofs.Multiplying.{product_length}
use Rattle.polynomials.proofs.Division.{step_length, padded_length, remainder_length}
use Rattle.frame_field.specs.Field.{◌⊕◌, ◌⊗◌, alpha, raised, symbols}
use Rattle.frame_field.proofs.TimesAlpha.{alphas, power, alphas_nought, alphas_zero}
use Rattle.frame_field.proofs.TimesBits.{power_below}
use Rattle.frame_field.proofs.Products.{product_comm, product_zero, product_one, raised_alpha}
use Rattle.frame_polynomial.specs.Frame.{product_below, generator, parity_of}
use Rattle.frame_polynomial.proofs.SymbolLists.{Symbols, append_symbols, zeros_symbols, plus_symbols, scaled_symbols, multiplied_symbols}
use Rattle.frame_polynomial.proofs.Distance.{value}
use Rattle.frame_polynomial.proofs.Values.{value_plus, value_append, value_zeros, value_below, value_zero_first, value_scaled, value_product}

-- ---- the generator
-- Its highest coefficient is one.
monic : (n : ℕ) → product_below n ≡ 1 ∷ drop 1 (product_below n)
unfolding product_below
monic zero = refl
monic (suc n) =
    ap factor (monic n)
    ∙ ap (λ (x : ℕ). x ∷ drop 1 (factor (1 ∷ drop 1 (product_below n)))) (xor_zero_r (1 ⊗ 1) ∙ product_one 1 (omega arith))
    ∙ ap (λ (l : List ℕ). 1 ∷ drop 1 (factor l)) (sym (monic n))
  where
    factor : List ℕ → List ℕ
    factor l = multiplied symbols (1 ∷ raised alpha n ∷ []) l

product_long : (n : ℕ) → length (product_below n) ≡ suc n
unfolding product_below
product_long zero = refl
product_long (suc n) =
    ap (λ (l : List ℕ). length (multiplied symbols (1 ∷ raised alpha n ∷ []) l)) (monic n)
    ∙ product_length symbols 1 (drop 1 (product_below n)) (1 ∷ raised alpha n ∷ [])
    ∙ (let l = ap length (sym (monic n)) ∙ product_long n in omega arith)

product_symbols : (n : ℕ) → Symbols (product_below n)
unfolding product_below
product_symbols zero = (omega arith, tt)
product_symbols (suc n) = multiplied_symbols (1 ∷ raised alpha n ∷ []) (product_below n)

-- Z less alpha^n is zero at alpha^n.
factor_symbols : (n : ℕ) → Symbols (1 ∷ raised alpha n ∷ [])
factor_symbols n = (omega arith, (subst (λ (x : ℕ). x < 512) (sym (raised_alpha n)) (power_below n), tt))

factor_root : (n : ℕ) → value n (1 ∷ raised alpha n ∷ []) ≡ 0
factor_root n =
    ap₂ ◌⊕◌ (ap (λ (k : ℕ). alphas k 1) (let e : n * 1 ≡ n = omega arith in e))
    (xor_zero_r (alphas (n * 0) (raised alpha n))
    ∙ ap (λ (k : ℕ). alphas k (raised alpha n)) (let e : n * 0 ≡ 0 = omega arith in e) ∙ alphas_nought (raised alpha n) ∙ raised_alpha n)
    ∙ xor_self (power n)

product_roots : (n i : ℕ) → i < n → value i (product_below n) ≡ 0
unfolding product_below
product_roots zero i h = absurd (not-suc-le-zero h)
product_roots (suc n) i h =
    ap (λ (l : List ℕ). value i (multiplied symbols first l)) (monic n)
    ∙ value_product i 1 first (drop 1 (product_below n)) (factor_symbols n) (subst Symbols (monic n) (product_symbols n))
    ∙ ap (λ (l : List ℕ). value i first ⊗ value i l) (sym (monic n))
    ∙ by (eqb i n) refl (λ l. product_roots n i l)
  where
    first : List ℕ
    first = 1 ∷ raised alpha n ∷ []

    there : value i (product_below n) < 512
    there = value_below i (product_below n) (product_symbols n)

    by : (t : Bool) → eqb i n ≡ t → (i < n → value i (product_below n) ≡ 0) → value i (1 ∷ raised alpha n ∷ []) ⊗ value i (product_below n) ≡ 0
    by true q r =
        ap (λ (x : ℕ). x ⊗ value i (product_below n)) (ap (λ (k : ℕ). value k first) (eqb-true i n q) ∙ factor_root n)
        ∙ product_comm 0 (value i (product_below n)) (omega arith) there ∙ product_zero (value i (product_below n)) there
    by false q r =
        ap (λ (x : ℕ). value i first ⊗ x) (r (let d = eqb-false i n q in omega arith)) ∙ product_zero (value i first) (value_below i first (factor_symbols n))

-- The coefficients below the highest.
unfoldable pub lower : List ℕ
lower = drop 1 generator

pub generator_is : generator ≡ 1 ∷ lower
unfolding generator lower
generator_is = monic 44

pub lower_long : length lower ≡ 44
lower_long = let l = ap length (sym generator_is) ∙ generator_long in omega arith
  where
    generator_long : length generator ≡ 45
    generator_long = unfold generator in product_long 44

pub whole_symbols : Symbols (1 ∷ lower)
whole_symbols = subst Symbols generator_is (unfold generator in product_symbols 44)

pub lower_symbols : Symbols lower
lower_symbols = whole_symbols.1

pub whole_roots : (i : ℕ) → i < 44 → value i (1 ∷ lower) ≡ 0
whole_roots i h = ap (value i) (sym generator_is) ∙ unfold generator in product_roots 44 i h

-- ---- division
-- A step leaves the value as it was.
step_value : (i c k : ℕ) (p : List ℕ) → i < 44 → c < 512 → length p ≡ k + length lower → value i (plus symbols (scaled symbols c lower) p) ≡ value i (c ∷ p)
step_value i c k p l h e =
    sym (value_zero_first i (plus symbols (scaled symbols c lower) p))
    ∙ ap (λ (x : ℕ). value i (x ∷ plus symbols (scaled symbols c lower) p)) (sym (ap (λ (x : ℕ). x ⊕ c) (product_one c h) ∙ xor_self c))
    ∙ value_plus i k (scaled symbols c (1 ∷ lower)) (c ∷ p) (let m = length-map lower (symbols.product c) in omega arith)
    ∙ ap (λ (x : ℕ). alphas (i * k) x ⊕ value i (c ∷ p)) (value_scaled i c (1 ∷ lower) h whole_symbols ∙ ap (λ (x : ℕ). c ⊗ x) (whole_roots i l) ∙ product_zero c h)
    ∙ ap (λ (x : ℕ). x ⊕ value i (c ∷ p)) (alphas_zero (i * k))
    ∙ xor_zero_l (value i (c ∷ p))

divided_value : (n i : ℕ) (p : List ℕ) → i < 44 → Symbols p → length p ≡ n + length lower → value i (divided symbols (1 ∷ lower) n p) ≡ value i p
divided_value zero i p l b e = refl
divided_value (suc n) i [] l b e = absurd (omega arith)
divided_value (suc n) i (c ∷ p) l b e =
    divided_value n i (plus symbols (scaled symbols c lower) p) l (plus_symbols (scaled symbols c lower) p (scaled_symbols c lower) b.1) (step_length symbols 1 lower c n p (omega arith))
    ∙ step_value i c n p l b.0 (omega arith)

pub divided_symbols : (n : ℕ) (p : List ℕ) → Symbols p → Symbols (divided symbols (1 ∷ lower) n p)
divided_symbols zero p b = b
divided_symbols (suc n) [] b = tt
divided_symbols (suc n) (c ∷ p) b = divided_symbols n (plus symbols (scaled symbols c lower) p) (plus_symbols (scaled symbols c lower) p (scaled_symbols c lower) b.1)

-- ---- the parity
pub parity_is : (taken : List ℕ) → parity_of taken ≡ remainder_by symbols (1 ∷ lower) taken
unfolding parity_of
parity_is taken = ap (λ (g : List ℕ). remainder_by symbols g taken) generator_is

pub parity_length : (taken : List ℕ) → length (parity_of taken) ≡ 44
parity_length taken = ap length (parity_is taken) ∙ remainder_length symbols 1 lower taken ∙ lower_long

pub parity_symbols : (taken : List ℕ) → Symbols taken → Symbols (parity_of taken)
parity_symbols taken b =
    subst Symbols (sym (parity_is taken))
    (divided_symbols (length taken) (taken ++ replicate (length lower) 0) (append_symbols taken (replicate (length lower) 0) b (zeros_symbols (length lower))))

parity_value : (i : ℕ) (taken : List ℕ) → i < 44 → Symbols taken → value i (parity_of taken) ≡ alphas (i * 44) (value i taken)
parity_value i taken h b =
    ap (value i) (parity_is taken)
    ∙ divided_value (length taken) i (taken ++ replicate (length lower) 0) h (append_symbols taken (replicate (length lower) 0) b (zeros_symbols (length lower))) (padded_length symbols 1 lower taken)
    ∙ ap (λ (n : ℕ). value i (taken ++ replicate n 0)) lower_long
    ∙ value_append i taken (replicate 44 0)
    ∙ ap (λ (x : ℕ). alphas (i * 44) (value i taken) ⊕ x) (value_zeros i 44)
    ∙ xor_zero_r (alphas (i * 44) (value i taken))

-- Data and their parity are zero at each of the 44 powers.
pub frame_zero : (i : ℕ) (taken : List ℕ) → i < 44 → Symbols taken → value i (taken ++ parity_of taken) ≡ 0
frame_zero i taken h b =
    value_append i taken (parity_of taken)
    ∙ ap₂ ◌⊕◌ (ap (λ (n : ℕ). alphas (i * n) (value i taken)) (parity_length taken)) (parity_value i taken h b)
    ∙ xor_self (alphas (i * 44) (value i taken))
