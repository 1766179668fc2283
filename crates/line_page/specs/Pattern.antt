-- 01, "The line": "A page has 157 evenly spaced positions." What stands at each of them.
use Rattle.std.specs.Prelude.{ℕ, ◌+◌, ◌^◌, Bool, true, false, not, ◌&&◌, List, [], ◌∷◌, if◌then◌else◌}
use Rattle.answers.specs.Choices.{◌≤?◌}
use Rattle.page_word.specs.Word.{odd, among}
use Rattle.line_mode.specs.declared.modes.LineMode.{LineMode}

-- "Delimiter transitions among 1-26", and of these "HSM: 1, 2, 3, 5, 7, 8, 12, 13, 14, 15, 19, 21, 24, 25, 26"
abbrev pub hsm_delimiter : List ℕ
hsm_delimiter = 1 ∷ 2 ∷ 3 ∷ 5 ∷ 7 ∷ 8 ∷ 12 ∷ 13 ∷ 14 ∷ 15 ∷ 19 ∷ 21 ∷ 24 ∷ 25 ∷ 26 ∷ []

-- "LSM: 1-9, 11, 13, 15, 16, 18, 19, 20, 22, 23, 24, 26"
abbrev pub lsm_delimiter : List ℕ
lsm_delimiter = 1 ∷ 2 ∷ 3 ∷ 4 ∷ 5 ∷ 6 ∷ 7 ∷ 8 ∷ 9 ∷ 11 ∷ 13 ∷ 15 ∷ 16 ∷ 18 ∷ 19 ∷ 20 ∷ 22 ∷ 23 ∷ 24 ∷ 26 ∷ []

-- Each mode has its own.
abbrev pub delimiter_of : LineMode → List ℕ
delimiter_of mode = if mode.slow then lsm_delimiter else hsm_delimiter

-- "Odd positions 27-153 always have one (clock)."
unfoldable pub is_clock : (position : ℕ) → Bool
is_clock p = 27 ≤? p && (p ≤? 153 && odd p)

-- "Even positions 28-154 have one for a one bit"
unfoldable pub is_bit : (position : ℕ) → Bool
is_bit p = 28 ≤? p && (p ≤? 154 && not (odd p))

-- At a position every page has a transition, or a page has one by a bit, or no page has one.
pub data Stands : Type 0 where
  always : Stands
  by_bit : Stands
  never : Stands

-- What stands at a position: in 1-26 as the delimiter has it, then clocks and bits; "Position 155 has one, 156 none, 157 has one."
unfoldable pub stands_at : (mode : LineMode) (position : ℕ) → Stands
stands_at mode p =
    if p ≤? 26 then (if among p (delimiter_of mode) then always else never)
    else if is_clock p then always
    else if is_bit p then by_bit
    else if among p (155 ∷ 157 ∷ []) then always
    else never

-- Whether a page has a transition where this stands, by the bit that stands there.
abbrev pub has : Stands → (bit : Bool) → Bool
has always bit = true
has by_bit bit = bit
has never bit = false

-- A list of positions as a number: bit p is one where p is in the list.
abbrev pub mask_of : List ℕ → ℕ
mask_of [] = 0
mask_of (p ∷ rest) = 2 ^ p + mask_of rest
