-- Polynomials, for the check bits of a page (01, "The page") and the parity of a frame (02, request 10). A polynomial is the list of its coefficients, highest power
-- first.
use Rattle.std.specs.Prelude.{ℕ, zero, suc, List, [], ◌∷◌, ◌++◌, map, length, replicate, drop}

-- What coefficients are: one of them is zero, and any two can be added and multiplied. In all of what follows, taking one away from another is the same as adding it.
pub record Coefficients (A : Type 0) : Type 0 where
  pub none : A
  pub sum : A → A → A
  pub product : A → A → A

-- The sum of two polynomials that begin at the same power, coefficient by coefficient; what the shorter lacks at its end is zero.
abbrev pub plus : {A : Type 0} (over : Coefficients A) (p q : List A) → List A
plus over [] q = q
plus over (a ∷ p) [] = a ∷ p
plus over (a ∷ p) (b ∷ q) = over.sum a b ∷ plus over p q

-- A coefficient times a polynomial.
abbrev pub scaled : {A : Type 0} (over : Coefficients A) (c : A) (p : List A) → List A
scaled over c p = map (over.product c) p

-- The product of two polynomials: each coefficient of the first, at its power, times the second, all added up. It has as many coefficients as both together, less one (where both have any).
abbrev pub multiplied : {A : Type 0} (over : Coefficients A) (p q : List A) → List A
multiplied over [] q = replicate (length (drop 1 q)) over.none
multiplied over (a ∷ p) q = plus over (scaled over a q) (over.none ∷ multiplied over p q)

-- n steps of long division by a divisor whose highest coefficient is one: the divisor, times the highest coefficient that is left, is taken away at that power; the
-- highest coefficient is then zero and is left off.
abbrev pub divided : {A : Type 0} (over : Coefficients A) (divisor : List A) (steps : ℕ) (p : List A) → List A
divided over divisor zero p = p
divided over divisor (suc n) [] = []
divided over divisor (suc n) (c ∷ p) = divided over divisor n (drop 1 (plus over (scaled over c divisor) (c ∷ p)))

-- As many zeros as a divisor has coefficients below its highest: so many coefficients a remainder has.
abbrev pub zeros_for : {A : Type 0} (over : Coefficients A) (divisor : List A) → List A
zeros_for over divisor = replicate (length (drop 1 divisor)) over.none

-- The remainder of data times the divisor's highest power: these zeros follow the data, and a step is made for each coefficient of the data.
abbrev pub remainder_by : {A : Type 0} (over : Coefficients A) (divisor p : List A) → List A
remainder_by over divisor p = divided over divisor (length p) (p ++ zeros_for over divisor)

-- The same where the data go on from others, of which only the remainder is known. That remainder, as many powers up as there are data, begins at the same power as the
-- data do, and is added to them.
abbrev pub remainder_after : {A : Type 0} (over : Coefficients A) (divisor remainder p : List A) → List A
remainder_after over divisor remainder p = divided over divisor (length p) (plus over remainder (p ++ zeros_for over divisor))
