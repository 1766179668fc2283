-- 02, request 10: "By document 004, 97.3.2.2, a frame has 406 data symbols of 9 bits (45 blocks of 81 bits and a 9-bit OAM symbol) and 44 parity symbols, over the field
-- made by x^9 + x^4 + 1 with alpha = 2, generator the product of Z less alpha^i for i = 0 to 43, first symbol highest." A list of symbols is a polynomial in Z, the
-- first symbol the coefficient of the highest power.
use Rattle.std.specs.Prelude.{ℕ, zero, suc, ◌+◌, ◌≡◌, Bool, true, ◌&&◌, List, [], ◌∷◌, length, take, drop, if◌then◌else◌}
use Rattle.answers.specs.Choices.{◌=?◌}
use Rattle.polynomials.specs.Polynomials.{multiplied, remainder_by}
use Rattle.frame_field.specs.Field.{is_symbol, ◌⊕◌, ◌⊗◌, alpha, raised, symbols}

-- Whether all numbers of a list are symbols.
unfoldable pub all_symbols : (list : List ℕ) → Bool
all_symbols [] = true
all_symbols (s ∷ later) = is_symbol s && all_symbols later

-- The product of Z less alpha^i for the n lowest i. Z less alpha^i has the coefficients 1 and alpha^i: to take away is to add.
unfoldable pub product_below : (n : ℕ) → List ℕ
product_below zero = 1 ∷ []
product_below (suc n) = multiplied symbols (1 ∷ raised alpha n ∷ []) (product_below n)

-- "generator the product of Z less alpha^i for i = 0 to 43"
unfoldable pub generator : List ℕ
generator = product_below 44

-- The parity symbols of data, "first symbol highest": the remainder, 44 coefficients, of the data times Z^44 by the generator. (That these are the
-- remainder, and no other 44 numbers are, is said in `FrameFacts`.)
unfoldable pub parity_of : (taken : List ℕ) → List ℕ
parity_of taken = remainder_by symbols generator taken

-- That a list is a frame: "406 data symbols of 9 bits .. and 44 parity symbols".
pub record IsFrame (list : List ℕ) : Type 0 where
  pub all : all_symbols list ≡ true
  pub long : length list ≡ 450
  pub right : drop 406 list ≡ parity_of (take 406 list)

-- The value of a list, "as a polynomial", at x.
unfoldable pub value_at : (x : ℕ) (list : List ℕ) → ℕ
value_at x [] = 0
value_at x (s ∷ later) = (s ⊗ raised x (length later)) ⊕ value_at x later

-- In how many places two lists of one length differ.
unfoldable pub changes_in : (list other : List ℕ) → ℕ
changes_in [] other = 0
changes_in (a ∷ list) [] = 0
changes_in (a ∷ list) (b ∷ other) = (if a =? b then 0 else 1) + changes_in list other
