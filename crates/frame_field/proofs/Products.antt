-- The product of specs/Field, by polynomials and their remainder, is the product by the bits of one factor; so the laws of the one are those of the other.
use mathlib.Core.Path.{◌≡◌, refl, sym, ap, ap₂, ◌∙◌, subst}
use mathlib.Core.Bool.{Bool, true, false, xor}
use mathlib.Core.List.{List, [], ◌∷◌, ◌++◌}
use Prim.Native.Nat.{ℕ, zero, suc, ◌+◌, ◌*◌, ◌/◌, ◌%◌, ◌^◌, ◌<◌}
use native.Mathlib.Numerals.{add-one}
use native.Mathlib.Omega.{arith}
use lib.Dec.{eqb}
use lib.Bits.{xor_zero_r, xor_lt}
use lib.ListN.{length, length-append, length-map}
use borrow.Author.Tests.{eqb-true}
use Rattle.page_word.specs.Word.{odd}
use Rattle.page_word.proofs.ComputedTest.{every_below, at_each}
use Rattle.polynomials.specs.Polynomials.{plus, scaled, multiplied, divided}
use Rattle.polynomials.specs.Binary.{binary, numeral, digits_of}
use Rattle.polynomials.proofs.BinarySums.{binary_sums, zero_step}
use Rattle.polynomials.proofs.BinaryNumbers.{bit, odd_bit, below, with_last, digits_numeral, numeral_digits, digits_last, numeral_plus, numeral_zeros, numeral_scaled}
use Rattle.polynomials.proofs.Division.{two_runs, divided_append, divided_length, passes}
use Rattle.polynomials.proofs.Multiplying.{product_length, product_last}
use Rattle.frame_field.specs.Field.{◌⊕◌, ◌⊗◌, field_polynomial, alpha, raised}
use Rattle.frame_field.proofs.TimesAlpha.{times_alpha, alphas, power, alphas_nought, alphas_one, alphas_below}
use Rattle.frame_field.proofs.TimesBits.{times_bits, times, times_comm, times_assoc, times_sum, times_sum_left, times_zero, times_left, times_power, times_alphas, power_times, power_below, no_divisors}
use Rattle.frame_field.proofs.PowersOfAlpha.{two}

abbrev lower : List Bool
lower = false ∷ false ∷ false ∷ false ∷ true ∷ false ∷ false ∷ false ∷ true ∷ []

-- One step of the division by x^9 + x^4 + 1, on ten coefficients: alpha times what stands above the lowest, and the lowest. Computed.
one_step : every_below 1024 (λ x. eqb (numeral (divided binary field_polynomial 1 (digits_of 10 x))) (times_alpha (x / 2) ⊕ (x % 2))) ≡ true
unfolding xor times_alpha
one_step = refl

bit_below : (b : Bool) → bit b < 2
bit_below true = omega arith
bit_below false = omega arith

pushed : (r : List Bool) (b : Bool) → length r ≡ 9 → numeral (divided binary field_polynomial 1 (r ++ (b ∷ []))) ≡ times_alpha (numeral r) ⊕ bit b
pushed r b h =
    ap (λ (l : List Bool). numeral (divided binary field_polynomial 1 l)) (sym spelled)
    ∙ eqb-true (numeral (divided binary field_polynomial 1 (digits_of 10 x))) (times_alpha (x / 2) ⊕ (x % 2))
    (at_each 1024 (λ x. eqb (numeral (divided binary field_polynomial 1 (digits_of 10 x))) (times_alpha (x / 2) ⊕ (x % 2))) one_step x small)
    ∙ ap₂ (λ (n m : ℕ). times_alpha n ⊕ m) halved odd_part
  where
    x : ℕ
    x = numeral (r ++ (b ∷ []))

    long : length (r ++ (b ∷ [])) ≡ 10
    long = length-append r (b ∷ []) ∙ ap (λ (n : ℕ). n + 1) h

    spelled : digits_of 10 (numeral (r ++ (b ∷ []))) ≡ r ++ (b ∷ [])
    spelled = ap (λ (n : ℕ). digits_of n (numeral (r ++ (b ∷ [])))) (sym long) ∙ digits_numeral (r ++ (b ∷ []))

    small : numeral (r ++ (b ∷ [])) < 1024
    small = subst (λ (n : ℕ). numeral (r ++ (b ∷ [])) < 2 ^ n) long (below (r ++ (b ∷ [])))

    halved : numeral (r ++ (b ∷ [])) / 2 ≡ numeral r
    halved = let w = with_last r b in let l = bit_below b in omega arith

    odd_part : numeral (r ++ (b ∷ [])) % 2 ≡ bit b
    odd_part = let w = with_last r b in let l = bit_below b in omega arith

-- What is left of a product with nine coefficients c and q, one zero before it.
abbrev left : List Bool → Bool → List Bool → List Bool
left p c q = divided binary field_polynomial (length p) (false ∷ multiplied binary p (c ∷ q))

module _ (c : Bool) (q : List Bool) (nine : length q ≡ 8) where
  whole_length : (p : List Bool) → length (false ∷ multiplied binary p (c ∷ q)) ≡ length p + 9
  whole_length p = let l = product_length binary c q p in omega arith

  -- One coefficient more of the first factor.
  left_last : (p : List Bool) (b : Bool) → numeral (left (p ++ (b ∷ [])) c q) ≡ times_alpha (numeral (left p c q)) ⊕ (bit b * numeral (c ∷ q))
  unfolding xor
  left_last p b =
      ap numeral
      (ap₂ (λ (n : ℕ) (l : List Bool). divided binary field_polynomial n (false ∷ l)) (length-append p (b ∷ []) ∙ add-one (length p)) (product_last binary_sums c q p b)
      ∙ passes binary_sums true lower (suc (length p)) (before ++ (false ∷ [])) (scaled binary b (c ∷ q)) before_long
      ∙ ap (λ (l : List Bool). plus binary l (scaled binary b (c ∷ q))) in_two)
      ∙ numeral_plus (divided binary field_polynomial 1 (left p c q ++ (false ∷ []))) (scaled binary b (c ∷ q)) same_length
      ∙ ap₂ ◌⊕◌ (pushed (left p c q) false (divided_length binary true lower (length p) before (whole_length p)) ∙ xor_zero_r (times_alpha (numeral (left p c q)))) (numeral_scaled b (c ∷ q))
    where
      before : List Bool
      before = false ∷ multiplied binary p (c ∷ q)

      before_long : length ((false ∷ multiplied binary p (c ∷ q)) ++ (false ∷ [])) ≡ suc (length p) + 9
      before_long = length-append (false ∷ multiplied binary p (c ∷ q)) (false ∷ []) ∙ (let w = whole_length p in omega arith)

      in_two : divided binary field_polynomial (suc (length p)) ((false ∷ multiplied binary p (c ∷ q)) ++ (false ∷ [])) ≡ divided binary field_polynomial 1 (left p c q ++ (false ∷ []))
      in_two =
          ap (λ (n : ℕ). divided binary field_polynomial n (before ++ (false ∷ []))) (sym (add-one (length p)))
          ∙ two_runs binary true lower (length p) 1 (before ++ (false ∷ []))
          ∙ ap (divided binary field_polynomial 1) (divided_append binary true lower (length p) before (false ∷ []) (whole_length p))

      same_length : length (divided binary field_polynomial 1 (left p c q ++ (false ∷ []))) ≡ length (scaled binary b (c ∷ q))
      same_length =
          divided_length binary true lower 1 (left p c q ++ (false ∷ []))
          (length-append (left p c q) (false ∷ []) ∙ ap (λ (n : ℕ). n + 1) (divided_length binary true lower (length p) before (whole_length p)))
          ∙ (let m = length-map (c ∷ q) (binary.product b) in omega arith)

  by_bits : (n a : ℕ) → numeral (left (digits_of n a) c q) ≡ times_bits n (numeral (c ∷ q)) a
  unfolding times_bits
  by_bits zero a = numeral_zeros (suc (length q))
  by_bits (suc n) a =
      ap (λ (l : List Bool). numeral (left l c q)) (digits_last n a)
      ∙ left_last (digits_of n (a / 2)) (odd a)
      ∙ ap₂ (λ (x y : ℕ). times_alpha x ⊕ (y * numeral (c ∷ q))) (by_bits n (a / 2)) (odd_bit a)

pub product_is : (a b : ℕ) → a < 512 → b < 512 → a ⊗ b ≡ times a b
unfolding ◌⊗◌
product_is a b h k =
    ap numeral (sym (zero_step lower 8 (multiplied binary (digits_of 9 a) (digits_of 9 b)) (let l = product_length binary (odd (b / 2 ^ 8)) (digits_of 8 b) (digits_of 9 a) in omega arith)))
    ∙ by_bits (odd (b / 2 ^ 8)) (digits_of 8 b) refl 9 a
    ∙ ap (λ (x : ℕ). times_bits 9 x a) (numeral_digits 9 b k)
    ∙ times_comm b a k h

-- The laws that follow, of symbols.
pub product_below_law : (a b : ℕ) → a ⊗ b < 512
unfolding ◌⊗◌
product_below_law a b =
    subst (λ (n : ℕ). a ⊗ b < 2 ^ n)
    (divided_length binary true lower 8 (multiplied binary (digits_of 9 a) (digits_of 9 b)) (product_length binary (odd (b / 2 ^ 8)) (digits_of 8 b) (digits_of 9 a)))
    (below (divided binary field_polynomial 8 (multiplied binary (digits_of 9 a) (digits_of 9 b))))

pub product_comm : (a b : ℕ) → a < 512 → b < 512 → a ⊗ b ≡ b ⊗ a
product_comm a b h k = product_is a b h k ∙ times_comm a b h k ∙ sym (product_is b a k h)

pub product_assoc : (a b c : ℕ) → a < 512 → b < 512 → c < 512 → (a ⊗ b) ⊗ c ≡ a ⊗ (b ⊗ c)
product_assoc a b c h k l =
    product_is (a ⊗ b) c (product_below_law a b) l
    ∙ ap (λ (x : ℕ). times x c) (product_is a b h k)
    ∙ times_assoc a b c h k l
    ∙ ap (times a) (sym (product_is b c k l))
    ∙ sym (product_is a (b ⊗ c) h (product_below_law b c))

pub over_sum : (a b c : ℕ) → a < 512 → b < 512 → c < 512 → a ⊗ (b ⊕ c) ≡ (a ⊗ b) ⊕ (a ⊗ c)
over_sum a b c h k l =
    product_is a (b ⊕ c) h (xor_lt 9 b c k l) ∙ times_sum a b c ∙ sym (ap₂ ◌⊕◌ (product_is a b h k) (product_is a c h l))

pub sum_over : (a b c : ℕ) → a < 512 → b < 512 → c < 512 → (a ⊕ b) ⊗ c ≡ (a ⊗ c) ⊕ (b ⊗ c)
sum_over a b c h k l =
    product_is (a ⊕ b) c (xor_lt 9 a b h k) l ∙ times_sum_left a b c ∙ sym (ap₂ ◌⊕◌ (product_is a c h l) (product_is b c k l))

pub product_zero : (a : ℕ) → a < 512 → a ⊗ 0 ≡ 0
product_zero a h = product_is a 0 h (omega arith) ∙ times_zero a

pub no_zero_product : (a b : ℕ) → a < 512 → b < 512 → (a ≡ 0 → ⊥) → a ⊗ b ≡ 0 → b ≡ 0
no_zero_product a b h k n e = no_divisors a b h k n (sym (product_is a b h k) ∙ e)

-- Products with powers of alpha.
pub product_power : (s k : ℕ) → s < 512 → s ⊗ power k ≡ alphas k s
product_power s k h = product_is s (power k) h (power_below k) ∙ times_power s k h

pub power_product : (k s : ℕ) → s < 512 → power k ⊗ s ≡ alphas k s
power_product k s h = product_is (power k) s (power_below k) h ∙ power_times k s h

pub product_alphas : (a k x : ℕ) → a < 512 → x < 512 → a ⊗ alphas k x ≡ alphas k (a ⊗ x)
product_alphas a k x h l =
    product_is a (alphas k x) h (alphas_below k x l) ∙ times_alphas a k x h l ∙ ap (alphas k) (sym (product_is a x h l))

pub alphas_product : (k a b : ℕ) → a < 512 → b < 512 → alphas k a ⊗ b ≡ alphas k (a ⊗ b)
alphas_product k a b h l =
    product_is (alphas k a) b (alphas_below k a h) l ∙ times_left k a b ∙ ap (alphas k) (sym (product_is a b h l))

pub product_alpha : (a : ℕ) → a < 512 → a ⊗ alpha ≡ times_alpha a
product_alpha a h = ap (λ (x : ℕ). a ⊗ x) (sym (alphas_one 1 ∙ two)) ∙ product_power a 1 h ∙ alphas_one a

pub product_one : (a : ℕ) → a < 512 → a ⊗ 1 ≡ a
product_one a h = ap (λ (x : ℕ). a ⊗ x) (sym (alphas_nought 1)) ∙ product_power a 0 h ∙ alphas_nought a

pub raised_alpha : (k : ℕ) → raised alpha k ≡ power k
unfolding raised alphas
raised_alpha zero = refl
raised_alpha (suc k) = ap (λ (x : ℕ). x ⊗ alpha) (raised_alpha k) ∙ product_alpha (power k) (power_below k)
