-- The value of a list at a power of alpha: of sums, of lists behind one another, of multiples and of products.
use mathlib.Core.Path.{◌≡◌, refl, sym, ap, ap₂, ◌∙◌, subst}
use mathlib.Core.List.{List, [], ◌∷◌, ◌++◌}
use Prim.Native.Nat.{ℕ, zero, suc, ◌+◌, ◌*◌, ◌<◌}
use native.Mathlib.Omega.{arith}
use lib.Bits.{xor_zero_l, xor_lt}
use lib.ListN.{length, length-append, length-map, replicate}
use Rattle.polynomials.specs.Polynomials.{plus, scaled, multiplied}
use Rattle.polynomials.proofs.Sums.{plus_length}
use Rattle.polynomials.proofs.Multiplying.{product_length}
use Rattle.frame_field.specs.Field.{◌⊕◌, ◌⊗◌, alpha, raised, symbols}
use Rattle.frame_field.proofs.ExclusiveOr.{assoc, swap}
use Rattle.frame_field.proofs.TimesAlpha.{alphas, power, alphas_sum, alphas_zero, alphas_below, alphas_add}
use Rattle.frame_field.proofs.TimesBits.{power_below}
use Rattle.frame_field.proofs.Products.{product_power, product_alphas, alphas_product, product_zero, product_comm, over_sum, sum_over, raised_alpha}
use Rattle.frame_polynomial.specs.Frame.{value_at}
use Rattle.frame_polynomial.proofs.SymbolLists.{Symbols}
use Rattle.frame_polynomial.proofs.Distance.{value}

-- ---- the value in the two ways of writing it
raised_power : (i n : ℕ) → raised (power i) n ≡ power (i * n)
unfolding raised alphas
raised_power i zero = ap (λ (k : ℕ). alphas k 1) (let e : 0 ≡ i * 0 = omega arith in e)
raised_power i (suc n) =
    product_power (raised (power i) n) i (subst (λ (x : ℕ). x < 512) (sym (raised_power i n)) (power_below (i * n)))
    ∙ ap (alphas i) (raised_power i n) ∙ sym (alphas_add (i * n) i 1)
    ∙ ap (λ (k : ℕ). alphas k 1) (let e : i * n + i ≡ i * suc n = omega arith in e)

at_power : (i : ℕ) (l : List ℕ) → Symbols l → value_at (power i) l ≡ value i l
unfolding value_at
at_power i [] b = refl
at_power i (s ∷ l) b =
    ap₂ ◌⊕◌ (ap (λ (x : ℕ). s ⊗ x) (raised_power i (length l)) ∙ product_power s (i * length l) b.0) (at_power i l b.1)

pub value_is : (i : ℕ) (l : List ℕ) → Symbols l → value_at (raised alpha i) l ≡ value i l
value_is i l b = ap (λ (x : ℕ). value_at x l) (raised_alpha i) ∙ at_power i l b

-- ---- sums
pub value_plus : (i k : ℕ) (p q : List ℕ) → length q ≡ length p + k → value i (plus symbols p q) ≡ alphas (i * k) (value i p) ⊕ value i q
value_plus i k [] q h = sym (ap (λ (x : ℕ). x ⊕ value i q) (alphas_zero (i * k)) ∙ xor_zero_l (value i q))
value_plus i k (a ∷ p) [] h = absurd (omega arith)
value_plus i k (a ∷ p) (b ∷ q) h =
    ap₂ ◌⊕◌
    (ap (λ (n : ℕ). alphas (i * n) (a ⊕ b)) (plus_length symbols p q (omega arith))
    ∙ alphas_sum (i * length q) a b
    ∙ ap (λ (x : ℕ). x ⊕ alphas (i * length q) b) moved)
    (value_plus i k p q (omega arith))
    ∙ swap (alphas (i * k) (alphas (i * length p) a)) (alphas (i * length q) b) (alphas (i * k) (value i p)) (value i q)
    ∙ ap (λ (x : ℕ). x ⊕ value i (b ∷ q)) (sym (alphas_sum (i * k) (alphas (i * length p) a) (value i p)))
  where
    moved : alphas (i * length q) a ≡ alphas (i * k) (alphas (i * length p) a)
    moved =
        ap (λ (n : ℕ). alphas (i * n) a) (let e : length q ≡ length p + k = omega arith in e)
        ∙ ap (λ (n : ℕ). alphas n a) (let e : i * (length p + k) ≡ i * length p + i * k = omega arith in e)
        ∙ alphas_add (i * length p) (i * k) a

pub value_append : (i : ℕ) (p q : List ℕ) → value i (p ++ q) ≡ alphas (i * length q) (value i p) ⊕ value i q
value_append i [] q = sym (ap (λ (x : ℕ). x ⊕ value i q) (alphas_zero (i * length q)) ∙ xor_zero_l (value i q))
value_append i (a ∷ p) q =
    ap₂ ◌⊕◌ moved (value_append i p q)
    ∙ sym (assoc (alphas (i * length q) (alphas (i * length p) a)) (alphas (i * length q) (value i p)) (value i q))
    ∙ ap (λ (x : ℕ). x ⊕ value i q) (sym (alphas_sum (i * length q) (alphas (i * length p) a) (value i p)))
  where
    moved : alphas (i * length (p ++ q)) a ≡ alphas (i * length q) (alphas (i * length p) a)
    moved =
        ap (λ (n : ℕ). alphas (i * n) a) (length-append p q)
        ∙ ap (λ (n : ℕ). alphas n a) (let e : i * (length p + length q) ≡ i * length p + i * length q = omega arith in e)
        ∙ alphas_add (i * length p) (i * length q) a

pub value_zeros : (i n : ℕ) → value i (replicate n 0) ≡ 0
value_zeros i zero = refl
value_zeros i (suc n) = ap₂ ◌⊕◌ (alphas_zero (i * length (replicate n 0))) (value_zeros i n)

pub value_below : (i : ℕ) (p : List ℕ) → Symbols p → value i p < 512
value_below i [] b = omega arith
value_below i (s ∷ p) b = xor_lt 9 (alphas (i * length p) s) (value i p) (alphas_below (i * length p) s b.0) (value_below i p b.1)

pub value_zero_first : (i : ℕ) (p : List ℕ) → value i (0 ∷ p) ≡ value i p
value_zero_first i p = ap (λ (x : ℕ). x ⊕ value i p) (alphas_zero (i * length p)) ∙ xor_zero_l (value i p)

-- ---- multiples
pub value_scaled : (i c : ℕ) (p : List ℕ) → c < 512 → Symbols p → value i (scaled symbols c p) ≡ c ⊗ value i p
value_scaled i c [] h b = sym (product_zero c h)
value_scaled i c (s ∷ p) h b =
    ap₂ ◌⊕◌
    (ap (λ (n : ℕ). alphas (i * n) (c ⊗ s)) (length-map p (symbols.product c)) ∙ sym (product_alphas c (i * length p) s h b.0))
    (value_scaled i c p h b.1)
    ∙ sym (over_sum c (alphas (i * length p) s) (value i p) h (alphas_below (i * length p) s b.0) (value_below i p b.1))

zero_product : (x : ℕ) → x < 512 → 0 ⊗ x ≡ 0
zero_product x h = product_comm 0 x (omega arith) h ∙ product_zero x h

-- The value of a product is the product of the values.
pub value_product : (i top : ℕ) (p lower : List ℕ) → Symbols p → Symbols (top ∷ lower)
    → value i (multiplied symbols p (top ∷ lower)) ≡ value i p ⊗ value i (top ∷ lower)
value_product i top [] lower b s = value_zeros i (length lower) ∙ sym (zero_product (value i (top ∷ lower)) (value_below i (top ∷ lower) s))
value_product i top (a ∷ p) lower b s =
    value_plus i (length p) (scaled symbols a (top ∷ lower)) (0 ∷ multiplied symbols p (top ∷ lower))
    (let l = product_length symbols top lower p in let m = length-map (top ∷ lower) (symbols.product a) in omega arith)
    ∙ ap₂ ◌⊕◌
    (ap (alphas (i * length p)) (value_scaled i a (top ∷ lower) b.0 s) ∙ sym (alphas_product (i * length p) a there b.0 below))
    (value_zero_first i (multiplied symbols p (top ∷ lower)) ∙ value_product i top p lower b.1 s)
    ∙ sym (sum_over (alphas (i * length p) a) (value i p) there (alphas_below (i * length p) a b.0) (value_below i p b.1) below)
  where
    there : ℕ
    there = value i (top ∷ lower)

    below : value i (top ∷ lower) < 512
    below = value_below i (top ∷ lower) s
