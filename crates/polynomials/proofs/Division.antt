-- Long division: how many coefficients are left, the steps in several runs, and the remainder of data that come in pieces.
use mathlib.Core.Path.{◌≡◌, refl, sym, ap, ap₂, ◌∙◌}
use mathlib.Core.List.{List, [], ◌∷◌, ◌++◌, append_assoc}
use Prim.Native.Nat.{ℕ, zero, suc, ◌+◌, ◌≤◌}
use native.Mathlib.Nat.{zero-add, suc-add}
use native.Mathlib.Omega.{arith}
use lib.ListN.{length, replicate, length-append, length-replicate, length-map}
use Rattle.polynomials.specs.Polynomials.{Coefficients, plus, scaled, divided, zeros_for, remainder_by, remainder_after}
use Rattle.polynomials.proofs.Sums.{Sums, nothing_right, plus_comm, plus_assoc, plus_length, plus_append, plus_parts, plus_zeros, zeros_plus}

-- The divisor is its highest coefficient and the lower ones, so many as a remainder has.
module _ {A : Type 0} (over : Coefficients A) (top : A) (lower : List A) where
  -- A step takes away the divisor times the highest coefficient.
  pub one_step : (c : A) (n : ℕ) (p : List A) → divided over (top ∷ lower) (suc n) (c ∷ p) ≡ divided over (top ∷ lower) n (plus over (scaled over c lower) p)
  one_step c n p = refl

  pub scaled_fits : (c : A) (n : ℕ) (p : List A) → length p ≡ n + length lower → length (scaled over c lower) ≤ length p
  scaled_fits c n p h = let m = length-map lower (over.product c) in omega arith

  pub step_length : (c : A) (n : ℕ) (p : List A) → length p ≡ n + length lower → length (plus over (scaled over c lower) p) ≡ n + length lower
  step_length c n p h = plus_length over (scaled over c lower) p (scaled_fits c n p h) ∙ h

  pub divided_length : (n : ℕ) (p : List A) → length p ≡ n + length lower → length (divided over (top ∷ lower) n p) ≡ length lower
  divided_length zero p h = h ∙ zero-add (length lower)
  divided_length (suc n) [] h = absurd (omega arith)
  divided_length (suc n) (c ∷ p) h = divided_length n (plus over (scaled over c lower) p) (step_length c n p (omega arith))

  divided_nil : (k : ℕ) → divided over (top ∷ lower) k [] ≡ []
  divided_nil zero = refl
  divided_nil (suc k) = refl

  -- The steps in two runs.
  pub two_runs : (n k : ℕ) (p : List A) → divided over (top ∷ lower) (n + k) p ≡ divided over (top ∷ lower) k (divided over (top ∷ lower) n p)
  two_runs zero k p = ap (λ (x : ℕ). divided over (top ∷ lower) x p) (zero-add k)
  two_runs (suc n) k [] = ap (λ (x : ℕ). divided over (top ∷ lower) x []) (suc-add n k) ∙ sym (divided_nil k)
  two_runs (suc n) k (c ∷ p) =
      ap (λ (x : ℕ). divided over (top ∷ lower) x (c ∷ p)) (suc-add n k) ∙ two_runs n k (plus over (scaled over c lower) p)

  -- What stands behind the coefficients that the steps look at is not changed.
  pub divided_append : (n : ℕ) (p r : List A) → length p ≡ n + length lower → divided over (top ∷ lower) n (p ++ r) ≡ divided over (top ∷ lower) n p ++ r
  divided_append zero p r h = refl
  divided_append (suc n) [] r h = absurd (omega arith)
  divided_append (suc n) (c ∷ p) r h =
      ap (divided over (top ∷ lower) n) (plus_append over (scaled over c lower) p r (scaled_fits c n p (omega arith)))
      ∙ divided_append n (plus over (scaled over c lower) p) r (step_length c n p (omega arith))

  pub padded_length : (p : List A) → length (p ++ zeros_for over (top ∷ lower)) ≡ length p + length lower
  padded_length p = length-append p (zeros_for over (top ∷ lower)) ∙ ap (λ (n : ℕ). length p + n) (length-replicate (length lower) over.none)

  pub remainder_length : (p : List A) → length (remainder_by over (top ∷ lower) p) ≡ length lower
  remainder_length p = divided_length (length p) (p ++ zeros_for over (top ∷ lower)) (padded_length p)

-- What is added at the lower powers comes through the division as it is.
module _ {A : Type 0} {over : Coefficients A} (sums : Sums over) (top : A) (lower : List A) where
  pub passes : (n : ℕ) (p t : List A) → length p ≡ n + length lower
      → divided over (top ∷ lower) n (plus over p (replicate n over.none ++ t)) ≡ plus over (divided over (top ∷ lower) n p) t
  passes zero p t h = refl
  passes (suc n) [] t h = absurd (omega arith)
  passes (suc n) (c ∷ p) t h =
      ap (λ (x : A). divided over (top ∷ lower) (suc n) (x ∷ plus over p (replicate n over.none ++ t))) (nothing_right sums c)
      ∙ ap (divided over (top ∷ lower) n) (sym (plus_assoc sums (scaled over c lower) p (replicate n over.none ++ t)))
      ∙ passes n (plus over (scaled over c lower) p) t (step_length over top lower c n p (omega arith))

  abbrev zeros : List A
  zeros = zeros_for over (top ∷ lower)

  -- Data with more behind them: the data times the divisor's highest power, and what comes behind them.
  spread : (p t : List A) → length lower ≤ length t → p ++ t ≡ plus over (p ++ zeros) (replicate (length p) over.none ++ t)
  spread p t h =
      sym (plus_comm sums (p ++ zeros) (replicate (length p) over.none ++ t)
      ∙ plus_parts over (replicate (length p) over.none) p t zeros (length-replicate (length p) over.none)
      ∙ ap₂ ◌++◌ (zeros_plus sums (length p) p (omega arith)) (plus_zeros sums (length lower) t h))

  after_length : (r p : List A) → length r ≡ length lower → length (plus over r (p ++ zeros)) ≡ length p + length lower
  after_length r p h = let z = padded_length over top lower p in plus_length over r (p ++ zeros) (omega arith) ∙ z

  pub remainder_after_length : (r p : List A) → length r ≡ length lower → length (remainder_after over (top ∷ lower) r p) ≡ length lower
  remainder_after_length r p h = divided_length over top lower (length p) (plus over r (p ++ zeros)) (after_length r p h)

  -- Data that come in two pieces: the second goes on from what the first has left.
  pub in_pieces : (r p t : List A) → length r ≡ length lower
      → remainder_after over (top ∷ lower) r (p ++ t) ≡ remainder_after over (top ∷ lower) (remainder_after over (top ∷ lower) r p) t
  in_pieces r p t h =
      ap₂ (λ (n : ℕ) (l : List A). divided over (top ∷ lower) n (plus over r l)) (length-append p t) (append_assoc p t zeros)
      ∙ two_runs over top lower (length p) (length t) (plus over r (p ++ (t ++ zeros)))
      ∙ ap (λ (l : List A). divided over (top ∷ lower) (length t) (divided over (top ∷ lower) (length p) l))
      (ap (plus over r) (spread p (t ++ zeros) (let z = padded_length over top lower t in omega arith))
      ∙ sym (plus_assoc sums r (p ++ zeros) (replicate (length p) over.none ++ (t ++ zeros))))
      ∙ ap (divided over (top ∷ lower) (length t)) (passes (length p) (plus over r (p ++ zeros)) (t ++ zeros) (after_length r p h))

  -- From zeros on it is the remainder of the data alone.
  pub after_zeros : (p : List A) → remainder_after over (top ∷ lower) zeros p ≡ remainder_by over (top ∷ lower) p
  after_zeros p = ap (divided over (top ∷ lower) (length p)) (zeros_plus sums (length lower) (p ++ zeros) (let z = padded_length over top lower p in omega arith))

  pub more_data : (p t : List A) → remainder_by over (top ∷ lower) (p ++ t) ≡ remainder_after over (top ∷ lower) (remainder_by over (top ∷ lower) p) t
  more_data p t =
      sym (after_zeros (p ++ t))
      ∙ in_pieces zeros p t (length-replicate (length lower) over.none)
      ∙ ap (λ (r : List A). remainder_after over (top ∷ lower) r t) (after_zeros p)
