-- Adding polynomials: the laws of `plus`, which begins at the highest power.
use mathlib.Core.Path.{◌≡◌, refl, sym, ap, ap₂, ◌∙◌}
use mathlib.Core.List.{List, [], ◌∷◌, ◌++◌}
use Prim.Native.Nat.{ℕ, zero, suc, ◌≤◌, ◌<◌}
use native.Mathlib.Nat.{le_of_suc-le-suc, not-suc-le-zero}
use native.Mathlib.Omega.{arith}
use lib.ListN.{length, replicate, get_or}
use Rattle.polynomials.specs.Polynomials.{Coefficients, plus, scaled}

-- What the laws rest on: sums in any order, and two of the same are nothing.
pub record Sums {A : Type 0} (over : Coefficients A) : Type 0 where
  pub comm : (a b : A) → over.sum a b ≡ over.sum b a
  pub assoc : (a b c : A) → over.sum (over.sum a b) c ≡ over.sum a (over.sum b c)
  pub nothing : (a : A) → over.sum over.none a ≡ a
  pub self : (a : A) → over.sum a a ≡ over.none

module _ {A : Type 0} {over : Coefficients A} (sums : Sums over) where
  pub twice : (a b : A) → over.sum a (over.sum a b) ≡ b
  twice a b = sym (sums.assoc a a b) ∙ ap (λ (x : A). over.sum x b) (sums.self a) ∙ sums.nothing b

  pub nothing_right : (a : A) → over.sum a over.none ≡ a
  nothing_right a = sums.comm a over.none ∙ sums.nothing a

  pub plus_comm : (p q : List A) → plus over p q ≡ plus over q p
  plus_comm [] [] = refl
  plus_comm [] (b ∷ q) = refl
  plus_comm (a ∷ p) [] = refl
  plus_comm (a ∷ p) (b ∷ q) = ap₂ ◌∷◌ (sums.comm a b) (plus_comm p q)

  pub plus_assoc : (p q r : List A) → plus over (plus over p q) r ≡ plus over p (plus over q r)
  plus_assoc [] q r = refl
  plus_assoc (a ∷ p) [] r = refl
  plus_assoc (a ∷ p) (b ∷ q) [] = refl
  plus_assoc (a ∷ p) (b ∷ q) (c ∷ r) = ap₂ ◌∷◌ (sums.assoc a b c) (plus_assoc p q r)

  -- Four of them added in another order.
  pub plus_swap : (p q r s : List A) → plus over (plus over p q) (plus over r s) ≡ plus over (plus over p r) (plus over q s)
  plus_swap p q r s =
      plus_assoc p q (plus over r s)
      ∙ ap (plus over p) (sym (plus_assoc q r s) ∙ ap (λ (l : List A). plus over l s) (plus_comm q r) ∙ plus_assoc r q s)
      ∙ sym (plus_assoc p r (plus over q s))

  -- Adding twice is adding nothing.
  pub plus_twice : (p q : List A) → length p ≤ length q → plus over p (plus over p q) ≡ q
  plus_twice [] q h = refl
  plus_twice (a ∷ p) [] h = absurd (not-suc-le-zero h)
  plus_twice (a ∷ p) (b ∷ q) h = ap₂ ◌∷◌ (twice a b) (plus_twice p q (le_of_suc-le-suc h))

  pub zeros_plus : (n : ℕ) (q : List A) → n ≤ length q → plus over (replicate n over.none) q ≡ q
  zeros_plus zero q h = refl
  zeros_plus (suc n) [] h = absurd (not-suc-le-zero h)
  zeros_plus (suc n) (b ∷ q) h = ap₂ ◌∷◌ (sums.nothing b) (zeros_plus n q (le_of_suc-le-suc h))

  pub plus_zeros : (n : ℕ) (p : List A) → n ≤ length p → plus over p (replicate n over.none) ≡ p
  plus_zeros n p h = plus_comm p (replicate n over.none) ∙ zeros_plus n p h

  -- A sum with itself is zero.
  pub plus_self : (p : List A) → plus over p p ≡ replicate (length p) over.none
  plus_self [] = refl
  plus_self (a ∷ p) = ap₂ ◌∷◌ (sums.self a) (plus_self p)

  -- Place by place.
  pub plus_at : (p q : List A) (k : ℕ) → length p ≡ length q
      → get_or (plus over p q) k over.none ≡ over.sum (get_or p k over.none) (get_or q k over.none)
  plus_at [] [] k h = sym (sums.nothing over.none)
  plus_at [] (b ∷ q) k h = absurd (omega arith)
  plus_at (a ∷ p) [] k h = absurd (omega arith)
  plus_at (a ∷ p) (b ∷ q) zero h = refl
  plus_at (a ∷ p) (b ∷ q) (suc k) h = plus_at p q k (omega arith)

-- These hold whatever the coefficients are.
module _ {A : Type 0} (over : Coefficients A) where
  pub plus_nil : (p : List A) → plus over p [] ≡ p
  plus_nil [] = refl
  plus_nil (a ∷ p) = refl

  pub plus_length : (p q : List A) → length p ≤ length q → length (plus over p q) ≡ length q
  plus_length [] q h = refl
  plus_length (a ∷ p) [] h = absurd (not-suc-le-zero h)
  plus_length (a ∷ p) (b ∷ q) h = ap suc (plus_length p q (le_of_suc-le-suc h))

  -- A sum that reaches only into the first of two parts.
  pub plus_append : (p q r : List A) → length p ≤ length q → plus over p (q ++ r) ≡ plus over p q ++ r
  plus_append [] q r h = refl
  plus_append (a ∷ p) [] r h = absurd (not-suc-le-zero h)
  plus_append (a ∷ p) (b ∷ q) r h = ap (λ (l : List A). over.sum a b ∷ l) (plus_append p q r (le_of_suc-le-suc h))

  -- Sums of two parts each, where the first parts are equally long.
  pub plus_parts : (p p' q q' : List A) → length p ≡ length p' → plus over (p ++ q) (p' ++ q') ≡ plus over p p' ++ plus over q q'
  plus_parts [] [] q q' h = refl
  plus_parts [] (b ∷ p') q q' h = cc h
  plus_parts (a ∷ p) [] q q' h = cc h
  plus_parts (a ∷ p) (b ∷ p') q q' h = ap (λ (l : List A). over.sum a b ∷ l) (plus_parts p p' q q' (cc h))

  pub scaled_at : (c : A) (p : List A) (k : ℕ) (d : A) → k < length p → get_or (scaled over c p) k d ≡ over.product c (get_or p k d)
  scaled_at c [] k d h = absurd (not-suc-le-zero h)
  scaled_at c (a ∷ p) zero d h = refl
  scaled_at c (a ∷ p) (suc k) d h = scaled_at c p k d (le_of_suc-le-suc h)
