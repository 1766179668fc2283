-- The long division is a division: data times the divisor's highest power, less their remainder, are a multiple of the divisor, and no other list that is as long makes them one.
use mathlib.Core.Path.{◌≡◌, refl, sym, ap, ap₂, ◌∙◌}
use mathlib.Core.List.{List, [], ◌∷◌, ◌++◌}
use Prim.Native.Nat.{ℕ, zero, suc, ◌+◌, ◌≤◌}
use native.Mathlib.Omega.{arith}
use lib.ListN.{length, replicate, length-append, length-replicate}
use Rattle.polynomials.specs.Polynomials.{Coefficients, plus, scaled, multiplied, divided, zeros_for, remainder_by}
use Rattle.polynomials.proofs.Sums.{Sums, nothing_right, plus_comm, plus_assoc, plus_twice, plus_length, plus_parts, plus_self, plus_zeros, zeros_plus}
use Rattle.polynomials.proofs.Division.{scaled_fits, step_length, padded_length, remainder_length}
use Rattle.polynomials.proofs.Multiplying.{product_length}

-- Each coefficient fits a condition.
abbrev pub Each : {A : Type 0} → (A → Type 0) → List A → Type 0
Each fits [] = Unit
Each fits (a ∷ l) = (fits a) × Each fits l

-- The divisor's highest coefficient is one for all that fit, and a step of the division leaves what fits.
pub record Monic {A : Type 0} (over : Coefficients A) (fits : A → Type 0) (top : A) (lower : List A) : Type 0 where
  pub whole : (a : A) → fits a → over.product a top ≡ a
  pub step : (c : A) (p : List A) → fits c → Each fits p → Each fits (plus over (scaled over c lower) p)

-- The coefficients that the steps of the division leave off.
abbrev pub quotient : {A : Type 0} (over : Coefficients A) (lower : List A) (steps : ℕ) (p : List A) → List A
quotient over lower zero p = []
quotient over lower (suc n) [] = []
quotient over lower (suc n) (c ∷ p) = c ∷ quotient over lower n (plus over (scaled over c lower) p)

pub quotient_length : {A : Type 0} (over : Coefficients A) (top : A) (lower : List A) (n : ℕ) (p : List A) → length p ≡ n + length lower
    → length (quotient over lower n p) ≡ n
quotient_length over top lower zero p h = refl
quotient_length over top lower (suc n) [] h = absurd (omega arith)
quotient_length over top lower (suc n) (c ∷ p) h = ap suc (quotient_length over top lower n (plus over (scaled over c lower) p) (step_length over top lower c n p (omega arith)))

module _ {A : Type 0} {over : Coefficients A} {fits : A → Type 0} (sums : Sums over) (top : A) (lower : List A) (monic : Monic over fits top lower) where
  abbrev zeros : ℕ → List A
  zeros n = replicate n over.none

  abbrev multiple : List A → List A
  multiple q = multiplied over q (top ∷ lower)

  pub quotient_fits : (n : ℕ) (p : List A) → Each fits p → Each fits (quotient over lower n p)
  quotient_fits zero p b = tt
  quotient_fits (suc n) [] b = tt
  quotient_fits (suc n) (c ∷ p) b = (b.0, quotient_fits n (plus over (scaled over c lower) p) (monic.step c p b.0 b.1))

  -- A multiple of the divisor, one coefficient more.
  pub multiple_more : (c : A) (q : List A) → fits c → multiple (c ∷ q) ≡ c ∷ plus over (scaled over c lower) (multiple q)
  multiple_more c q b = ap (λ (x : A). x ∷ plus over (scaled over c lower) (multiple q)) (nothing_right sums (over.product c top) ∙ monic.whole c b)

  -- What is divided is the quotient times the divisor, and the remainder at the lowest powers.
  regained : (n : ℕ) (p : List A) → Each fits p → length p ≡ n + length lower
      → plus over (multiple (quotient over lower n p)) (zeros n ++ divided over (top ∷ lower) n p) ≡ p
  regained zero p b h = zeros_plus sums (length lower) p (omega arith)
  regained (suc n) [] b h = absurd (omega arith)
  regained (suc n) (c ∷ p) b h =
      ap (λ (l : List A). plus over l (over.none ∷ zeros n ++ divided over (top ∷ lower) n rest)) (multiple_more c (quotient over lower n rest) b.0)
      ∙ ap₂ ◌∷◌ (nothing_right sums c)
      (plus_assoc sums (scaled over c lower) (multiple (quotient over lower n rest)) (zeros n ++ divided over (top ∷ lower) n rest)
      ∙ ap (plus over (scaled over c lower)) (regained n rest (monic.step c p b.0 b.1) (step_length over top lower c n p (omega arith)))
      ∙ plus_twice sums (scaled over c lower) p (scaled_fits over top lower c n p (omega arith)))
    where
      rest : List A
      rest = plus over (scaled over c lower) p

  low_length : (n : ℕ) (r : List A) → length r ≡ length lower → length (zeros n ++ r) ≡ n + length lower
  low_length n r h = length-append (zeros n) r ∙ ap₂ ◌+◌ (length-replicate n over.none) h

  -- A multiple of the divisor with as many coefficients added as a remainder has leaves just these.
  left_over : (q r : List A) → Each fits q → length r ≡ length lower → divided over (top ∷ lower) (length q) (plus over (multiple q) (zeros (length q) ++ r)) ≡ r
  left_over [] r b h = zeros_plus sums (length lower) r (omega arith)
  left_over (c ∷ q) r b h =
      ap (λ (l : List A). divided over (top ∷ lower) (suc (length q)) (plus over l (over.none ∷ zeros (length q) ++ r))) (multiple_more c q b.0)
      ∙ ap (λ (x : A). divided over (top ∷ lower) (suc (length q)) (x ∷ plus over (plus over (scaled over c lower) (multiple q)) (zeros (length q) ++ r))) (nothing_right sums c)
      ∙ ap (λ (l : List A). divided over (top ∷ lower) (length q) (plus over (scaled over c lower) l)) (plus_assoc sums (scaled over c lower) (multiple q) (zeros (length q) ++ r))
      ∙ ap (divided over (top ∷ lower) (length q)) (plus_twice sums (scaled over c lower) (plus over (multiple q) (zeros (length q) ++ r)) enough)
      ∙ left_over q r b.1 h
    where
      long : length (plus over (multiple q) (zeros (length q) ++ r)) ≡ length q + length lower
      long = plus_length over (multiple q) (zeros (length q) ++ r) (omega (arith, low_length (length q) r h, product_length over top lower q)) ∙ low_length (length q) r h

      enough : length (scaled over c lower) ≤ length (plus over (multiple q) (zeros (length q) ++ r))
      enough = scaled_fits over top lower c (length q) (plus over (multiple q) (zeros (length q) ++ r)) long

  padded : List A → List A
  padded p = p ++ zeros_for over (top ∷ lower)

  -- Data times the divisor's highest power, and their remainder taken away: the remainder stands where the zeros stood.
  filled : (p r : List A) → length r ≡ length lower → plus over (zeros (length p) ++ r) (padded p) ≡ p ++ r
  unfolding padded
  filled p r h =
      plus_parts over (zeros (length p)) p r (zeros (length lower)) (length-replicate (length p) over.none)
      ∙ ap₂ ◌++◌ (zeros_plus sums (length p) p (omega arith)) (plus_zeros sums (length lower) r (omega arith))

  pub divisible : (p : List A) → Each fits (p ++ zeros_for over (top ∷ lower))
      → multiple (quotient over lower (length p) (p ++ zeros_for over (top ∷ lower))) ≡ p ++ remainder_by over (top ∷ lower) p
  unfolding padded
  divisible p b =
      sym (plus_twice sums low product (omega (arith, low_long, product_long)))
      ∙ ap (plus over low) (plus_comm sums low product ∙ regained (length p) (padded p) b (padded_length over top lower p))
      ∙ filled p (remainder_by over (top ∷ lower) p) (remainder_length over top lower p)
    where
      product : List A
      product = multiple (quotient over lower (length p) (padded p))

      low : List A
      low = zeros (length p) ++ remainder_by over (top ∷ lower) p

      low_long : length (zeros (length p) ++ remainder_by over (top ∷ lower) p) ≡ length p + length lower
      low_long = low_length (length p) (remainder_by over (top ∷ lower) p) (remainder_length over top lower p)

      product_long : length (multiple (quotient over lower (length p) (padded p))) ≡ length p + length lower
      product_long =
          product_length over top lower (quotient over lower (length p) (padded p))
          ∙ ap (λ (n : ℕ). n + length lower) (quotient_length over top lower (length p) (padded p) (padded_length over top lower p))

  -- No other coefficients do it.
  pub no_other : (p r q : List A) → Each fits q → length r ≡ length lower → multiple q ≡ p ++ r → r ≡ remainder_by over (top ∷ lower) p
  no_other p r q b h e = sym (left_over q r b h) ∙ ap₂ (divided over (top ∷ lower)) same cleared
    where
      same : length q ≡ length p
      same = let t = product_length over top lower q in let l = ap length e ∙ length-append p r in omega arith

      cleared : plus over (multiple q) (zeros (length q) ++ r) ≡ p ++ zeros_for over (top ∷ lower)
      cleared =
          ap₂ (λ (l : List A) (n : ℕ). plus over l (zeros n ++ r)) e same
          ∙ plus_comm sums (p ++ r) (zeros (length p) ++ r)
          ∙ plus_parts over (zeros (length p)) p r r (length-replicate (length p) over.none)
          ∙ ap₂ ◌++◌ (zeros_plus sums (length p) p (omega arith)) (plus_self sums r ∙ ap (λ (n : ℕ). zeros n) h)
