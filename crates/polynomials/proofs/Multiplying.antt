-- The product of two polynomials: how many coefficients it has, and what one coefficient more at the end of the first adds to it.
use mathlib.Core.Path.{◌≡◌, refl, sym, ap, ◌∙◌}
use mathlib.Core.List.{List, [], ◌∷◌, ◌++◌}
use Prim.Native.Nat.{ℕ, zero, suc, ◌+◌}
use native.Mathlib.Omega.{arith}
use lib.ListN.{length, replicate, length-map, length-replicate}
use Rattle.polynomials.specs.Polynomials.{Coefficients, plus, scaled, multiplied}
use Rattle.polynomials.proofs.Sums.{Sums, plus_comm, plus_assoc, plus_length, plus_append}

-- The second factor is its highest coefficient and the lower ones.
module _ {A : Type 0} (over : Coefficients A) (top : A) (lower : List A) where
  pub product_length : (p : List A) → length (multiplied over p (top ∷ lower)) ≡ length p + length lower
  product_length [] = length-replicate (length lower) over.none ∙ omega arith
  product_length (c ∷ p) =
      let l = product_length p in
      let m = length-map lower (over.product c) in
      plus_length over (scaled over c (top ∷ lower)) (over.none ∷ multiplied over p (top ∷ lower)) (omega arith) ∙ omega arith

module _ {A : Type 0} {over : Coefficients A} (sums : Sums over) (top : A) (lower : List A) where
  zeros_last : (n : ℕ) → over.none ∷ replicate n over.none ≡ replicate n over.none ++ (over.none ∷ [])
  zeros_last zero = refl
  zeros_last (suc n) = ap (λ (l : List A). over.none ∷ l) (zeros_last n)

  pub product_last : (p : List A) (b : A)
      → multiplied over (p ++ (b ∷ [])) (top ∷ lower)
      ≡ plus over (multiplied over p (top ∷ lower) ++ (over.none ∷ [])) (replicate (length p) over.none ++ scaled over b (top ∷ lower))
  product_last [] b =
      ap (plus over (scaled over b (top ∷ lower))) (zeros_last (length lower))
      ∙ plus_comm sums (scaled over b (top ∷ lower)) (replicate (length lower) over.none ++ (over.none ∷ []))
  product_last (c ∷ p) b =
      ap (λ (l : List A). plus over first (over.none ∷ l)) (product_last p b)
      ∙ ap (λ (x : A). plus over first (x ∷ plus over (multiplied over p (top ∷ lower) ++ (over.none ∷ [])) last)) (sym (sums.nothing over.none))
      ∙ sym (plus_assoc sums first (over.none ∷ (multiplied over p (top ∷ lower) ++ (over.none ∷ []))) (over.none ∷ last))
      ∙ ap (λ (l : List A). plus over l (over.none ∷ last))
      (plus_append over first (over.none ∷ multiplied over p (top ∷ lower)) (over.none ∷ [])
      (let l = product_length over top lower p in let m = length-map lower (over.product c) in omega arith))
    where
      first : List A
      first = scaled over c (top ∷ lower)

      last : List A
      last = replicate (length p) over.none ++ scaled over b (top ∷ lower)
