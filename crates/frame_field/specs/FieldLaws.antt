-- 02, request 10: "the field made by x^9 + x^4 + 1 with alpha = 2". That it is a field, that alpha is a root of this polynomial, and that the powers of alpha from 0 to
-- 510 are all symbols but zero, each once.
use Rattle.std.specs.Prelude.{ℕ, ◌^◌, ◌<◌, ◌≡◌}
use Rattle.frame_field.specs.Field.{◌⊕◌, ◌⊗◌, alpha, raised}

-- That x is alpha to an exponent below 511.
pub record PowerOfAlpha (x : ℕ) : Type 0 where
  pub exponent : ℕ
  pub below : exponent < 511
  pub is : raised alpha exponent ≡ x

pub record FieldLaws : Type 0 where
  -- Sum and product of symbols are symbols.
  pub sum_below : (a b : ℕ) → a < 512 → b < 512 → a ⊕ b < 512
  pub product_below_law : (a b : ℕ) → a ⊗ b < 512
  -- Sums: in any order, zero, and each symbol taken away from itself by adding it.
  pub sum_comm : (a b : ℕ) → a ⊕ b ≡ b ⊕ a
  pub sum_assoc : (a b c : ℕ) → (a ⊕ b) ⊕ c ≡ a ⊕ (b ⊕ c)
  pub sum_zero : (a : ℕ) → a ⊕ 0 ≡ a
  pub sum_self : (a : ℕ) → a ⊕ a ≡ 0
  -- Products: in any order, one, and over sums.
  pub product_comm : (a b : ℕ) → a < 512 → b < 512 → a ⊗ b ≡ b ⊗ a
  pub product_assoc : (a b c : ℕ) → a < 512 → b < 512 → c < 512 → (a ⊗ b) ⊗ c ≡ a ⊗ (b ⊗ c)
  pub product_one : (a : ℕ) → a < 512 → a ⊗ 1 ≡ a
  pub over_sum : (a b c : ℕ) → a < 512 → b < 512 → c < 512 → a ⊗ (b ⊕ c) ≡ (a ⊗ b) ⊕ (a ⊗ c)
  -- No two factors but zero give zero, and each symbol but zero has an inverse.
  pub no_zero_product : (a b : ℕ) → a < 512 → b < 512 → (a ≡ 0 → ⊥) → a ⊗ b ≡ 0 → b ≡ 0
  pub inverse : (a : ℕ) → a < 512 → (a ≡ 0 → ⊥) → (b : ℕ) × ((b < 512) × (a ⊗ b ≡ 1))
  -- "made by x^9 + x^4 + 1": alpha is a root of it, and alpha^0 to alpha^8 are the nine bits of a symbol. As sums are made bit by bit, this fixes the product of any two symbols.
  pub root : (raised alpha 9 ⊕ raised alpha 4) ⊕ 1 ≡ 0
  pub bits : (i : ℕ) → i < 9 → raised alpha i ≡ 2 ^ i
  -- Every symbol but zero is alpha to an exponent below 511; these powers differ, and none is zero.
  pub all_powers : (x : ℕ) → x < 512 → (x ≡ 0 → ⊥) → PowerOfAlpha x
  pub differ : (j k : ℕ) → j < 511 → k < 511 → raised alpha j ≡ raised alpha k → j ≡ k
  pub never_zero : (k : ℕ) → raised alpha k ≡ 0 → ⊥
