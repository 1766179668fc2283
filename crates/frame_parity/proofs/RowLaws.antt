-- Rows of 44 symbols: times alpha, sums, and the table of them.
use mathlib.Core.Path.{◌≡◌, refl, sym, ap, ap₂, ◌∙◌, subst}
use mathlib.Core.Bool.{true, xor}
use mathlib.Core.List.{List, [], ◌∷◌}
use Prim.Native.Nat.{ℕ, zero, suc, ◌+◌, ◌*◌, ◌/◌, ◌%◌, ◌^◌, ◌≤◌, ◌<◌}
use native.Mathlib.Nat.{not-suc-le-zero, mul-one, add-zero}
use native.Mathlib.Omega.{arith}
use lib.Dec.{eqb}
use lib.Bits.{bit_xor, xor_zero_r, xor_lt}
use lib.ListN.{length, length-map, get_or, replicate}
use borrow.Author.Tests.{eqb-true}
use Rattle.page_word.proofs.ComputedTest.{every_below, at_each}
use Rattle.polynomials.specs.Polynomials.{plus, scaled}
use Rattle.polynomials.proofs.Sums.{plus_length, scaled_at}
use Rattle.frame_field.specs.Field.{◌⊕◌, ◌⊗◌, alpha, symbols}
use Rattle.frame_field.proofs.TimesAlpha.{times_alpha}
use Rattle.frame_field.proofs.Products.{product_comm, product_assoc, product_one, product_zero, product_alpha, sum_over}
use Rattle.frame_polynomial.proofs.SymbolLists.{Symbols, as_symbols, all_symbols_law, scaled_symbols, symbol_at}
use Rattle.frame_polynomial.proofs.Roots.{lower, lower_long, lower_symbols}
use Rattle.frame_polynomial.proofs.GeneratorList.{lower_list, lower_list_law}
use Rattle.frame_parity.specs.Working.{Row, RowTimes, RowSum, factor_of, rows_from, rows_of}

-- ---- a symbol times alpha
alpha_times : (x : ℕ) → x < 512 → alpha ⊗ x ≡ times_alpha x
alpha_times x h = product_comm alpha x (omega arith) h ∙ product_alpha x h

pub low_alpha : (x : ℕ) → x < 256 → x * 2 ^ 1 % 2 ^ 16 ≡ alpha ⊗ x
unfolding times_alpha
low_alpha x h = sym (alpha_times x (omega arith) ∙ ap (λ (b : ℕ). (x * 2) ⊕ (b * 529)) (let e : x / 256 % 2 ≡ 0 = omega arith in e) ∙ xor_zero_r (x * 2) ∙ omega arith)

pub high_alpha : (x : ℕ) → 256 ≤ x → x < 512 → bit_xor (x * 2 ^ 1 % 2 ^ 16) 529 ≡ alpha ⊗ x
unfolding times_alpha
high_alpha x h k =
    ap (λ (d : ℕ). bit_xor d 529) (let e : x * 2 ^ 1 % 2 ^ 16 ≡ x * 2 = omega arith in e)
    ∙ sym (alpha_times x k ∙ ap (λ (b : ℕ). (x * 2) ⊕ (b * 529)) (let e : x / 256 % 2 ≡ 1 = omega arith in e))

-- ---- a row times alpha
pub row_symbol : (row : List ℕ) (at : ℕ) → Row row → at < 44 → get_or row at 0 < 512
row_symbol row at r h = symbol_at row at (as_symbols row r.all) (let l = r.long in omega arith)

pub scaled_row : (c : ℕ) (row : List ℕ) → Row row → Row (scaled symbols c row)
scaled_row c row r = record { long = length-map row (symbols.product c) ∙ r.long; all = all_symbols_law (scaled symbols c row) (scaled_symbols c row) }

pub scaled_symbol : (c : ℕ) (row : List ℕ) → Row row → (at : ℕ) → at < 44 → get_or (scaled symbols c row) at 0 ≡ c ⊗ get_or row at 0
scaled_symbol c row r at h = scaled_at symbols c row at 0 (let l = r.long in omega arith)

-- ---- the sum of two rows
pub sum_long : (one other : List ℕ) → length one ≡ 44 → length other ≡ 44 → length (plus symbols one other) ≡ 44
sum_long one other h k = plus_length symbols one other (omega arith) ∙ k

-- ---- multiples of a row
-- None, one, a multiple of a multiple, and the sum of two multiples.
pub no_times : (l : List ℕ) → Symbols l → scaled symbols 0 l ≡ replicate (length l) 0
no_times [] b = refl
no_times (s ∷ l) b = ap₂ ◌∷◌ (product_comm 0 s (omega arith) b.0 ∙ product_zero s b.0) (no_times l b.1)

pub one_time : (l : List ℕ) → Symbols l → scaled symbols 1 l ≡ l
one_time [] b = refl
one_time (s ∷ l) b = ap₂ ◌∷◌ (product_comm 1 s (omega arith) b.0 ∙ product_one s b.0) (one_time l b.1)

times_times : (a b : ℕ) (l : List ℕ) → a < 512 → b < 512 → Symbols l → scaled symbols a (scaled symbols b l) ≡ scaled symbols (a ⊗ b) l
times_times a b [] h k s = refl
times_times a b (x ∷ l) h k s = ap₂ ◌∷◌ (sym (product_assoc a b x h k s.0)) (times_times a b l h k s.1)

times_sum : (a b : ℕ) (l : List ℕ) → a < 512 → b < 512 → Symbols l → plus symbols (scaled symbols a l) (scaled symbols b l) ≡ scaled symbols (a ⊕ b) l
times_sum a b [] h k s = refl
times_sum a b (x ∷ l) h k s = ap₂ ◌∷◌ (sym (sum_over a b x h k s.0)) (times_sum a b l h k s.1)

-- ---- the table
pub lower_row : Row lower_list
lower_row = subst Row lower_list_law (record { long = lower_long; all = all_symbols_law lower lower_symbols })

-- Twice a multiple, by doubling its number; the numbers are below 256, so that nothing is taken away.
doublings : every_below 256 (λ x. eqb (alpha ⊗ x) (x * 2)) ≡ true
unfolding ◌⊗◌ xor
doublings = refl

-- A row that is a number times the generator,
pub record Multiple (x : ℕ) (row : List ℕ) : Type 0 where
  pub below : x < 512
  pub is : row ≡ scaled symbols x lower_list

long : {x : ℕ} {row : List ℕ} → Multiple x row → length row ≡ 44
long {x} {row} m = ap length m.is ∙ length-map lower_list (symbols.product x) ∙ lower_row.long

-- doubled, and the sum of two.
pub doubled : {x : ℕ} {row next : List ℕ} → Multiple x row → RowTimes alpha row next → x < 256 → Multiple (x * 2) next
doubled {x} {row} {next} m t h =
    record {
      below = omega arith;
      is =
          t.is ∙ ap (scaled symbols alpha) m.is
          ∙ times_times alpha x lower_list (omega arith) m.below (as_symbols lower_list lower_row.all)
          ∙ ap (λ (y : ℕ). scaled symbols y lower_list) (eqb-true (alpha ⊗ x) (x * 2) (at_each 256 (λ x. eqb (alpha ⊗ x) (x * 2)) doublings x h));
    }

pub added : {x y : ℕ} {one other sum : List ℕ} → Multiple x one → Multiple y other → (length one ≡ 44 → length other ≡ 44 → RowSum one other sum) → Multiple (x ⊕ y) sum
added {x} {y} {one} {other} {sum} m n s =
    record {
      below = xor_lt 9 x y m.below n.below;
      is = (s (long m) (long n)).is ∙ ap₂ (plus symbols) m.is n.is ∙ times_sum x y lower_list m.below n.below (as_symbols lower_list lower_row.all);
    }

pub first_row : Multiple 1 lower_list
first_row = record { below = omega arith; is = sym (one_time lower_list (as_symbols lower_list lower_row.all)) }

pub zero_row : replicate 44 0 ≡ scaled symbols 0 lower_list
zero_row = sym (no_times lower_list (as_symbols lower_list lower_row.all) ∙ ap (λ (n : ℕ). replicate n 0) lower_row.long)

pub rows_are : rows_from lower_list 24 0 ≡ rows_of
unfolding rows_of lower
rows_are = ap (λ (l : List ℕ). rows_from l 24 0) (sym lower_list_law)

-- Its rows, place by place.
row_from : (l : List ℕ) (n k i : ℕ) → i < n → get_or (rows_from l n k) i [] ≡ scaled symbols (factor_of (k + i)) l
row_from l zero k i h = absurd (not-suc-le-zero h)
row_from l (suc n) k zero h = ap (λ (x : ℕ). scaled symbols (factor_of x) l) (sym (add-zero k))
row_from l (suc n) k (suc i) h =
    row_from l n (suc k) i (omega arith) ∙ ap (λ (x : ℕ). scaled symbols (factor_of x) l) (let e : suc k + i ≡ k + suc i = omega arith in e)

row_at : (k at : ℕ) → k < 24 → at < 44 → get_or (get_or rows_of k []) at 0 ≡ factor_of k ⊗ get_or lower at 0
unfolding rows_of lower
row_at k at h l =
    ap (λ (q : List ℕ). get_or q at 0) (row_from lower 24 0 k h)
    ∙ ap (λ (x : ℕ). get_or (scaled symbols (factor_of x) lower) at 0) (let e : 0 + k ≡ k = omega arith in e)
    ∙ scaled_at symbols (factor_of k) lower at 0 (let g = lower_long in omega arith)

factor_at : (v i : ℕ) → v < 8 → factor_of (v + i * 8) ≡ v * 8 ^ i
unfolding factor_of
factor_at v i h = ap₂ (λ (x y : ℕ). x * 8 ^ y) (let e : (v + i * 8) % 8 ≡ v = omega arith in e) (let e : (v + i * 8) / 8 ≡ i = omega arith in e)

pub low_row : (c at : ℕ) → at < 44 → get_or (get_or rows_of (c % 8) []) at 0 ≡ (c % 8) ⊗ get_or lower at 0
low_row c at h =
    row_at (c % 8) at (omega arith) h
    ∙ ap (λ (f : ℕ). f ⊗ get_or lower at 0)
    (ap factor_of (let e : c % 8 ≡ c % 8 + 0 * 8 = omega arith in e) ∙ factor_at (c % 8) 0 (omega arith) ∙ mul-one (c % 8))

pub middle_row : (c at : ℕ) → at < 44 → get_or (get_or rows_of (c / 8 % 8 + 8) []) at 0 ≡ (c / 8 % 8 * 8) ⊗ get_or lower at 0
middle_row c at h = row_at (c / 8 % 8 + 8) at (omega arith) h ∙ ap (λ (f : ℕ). f ⊗ get_or lower at 0) (factor_at (c / 8 % 8) 1 (omega arith))

pub high_row : (c at : ℕ) → at < 44 → get_or (get_or rows_of (c / 64 % 8 + 16) []) at 0 ≡ (c / 64 % 8 * 64) ⊗ get_or lower at 0
high_row c at h = row_at (c / 64 % 8 + 16) at (omega arith) h ∙ ap (λ (f : ℕ). f ⊗ get_or lower at 0) (factor_at (c / 64 % 8) 2 (omega arith))

-- A symbol is the sum of its lowest three bits, its middle three and its highest three, and so is its product.
pieces : every_below 512 (λ c. eqb c ((c % 8) ⊕ ((c / 8 % 8 * 8) ⊕ (c / 64 % 8 * 64)))) ≡ true
pieces = refl

pub in_three : (c g : ℕ) → c < 512 → g < 512 → c ⊗ g ≡ ((c % 8) ⊗ g) ⊕ (((c / 8 % 8 * 8) ⊗ g) ⊕ ((c / 64 % 8 * 64) ⊗ g))
in_three c g h k =
    ap (λ (x : ℕ). x ⊗ g) (eqb-true c (lowest ⊕ rest) (at_each 512 (λ c. eqb c ((c % 8) ⊕ ((c / 8 % 8 * 8) ⊕ (c / 64 % 8 * 64)))) pieces c h))
    ∙ sum_over lowest rest g (omega arith) (xor_lt 9 (c / 8 % 8 * 8) (c / 64 % 8 * 64) (omega arith) (omega arith)) k
    ∙ ap (λ (x : ℕ). (lowest ⊗ g) ⊕ x) (sum_over (c / 8 % 8 * 8) (c / 64 % 8 * 64) g (omega arith) (omega arith) k)
  where
    lowest : ℕ
    lowest = c % 8

    rest : ℕ
    rest = (c / 8 % 8 * 8) ⊕ (c / 64 % 8 * 64)
