-- 01, "The line": where a page's transitions are, and when.
use Rattle.std.specs.Prelude.{ℕ, zero, suc, ◌+◌, ◌*◌, ◌%◌, ◌^◌, Bool, false, List, [], ◌∷◌, ◌++◌, map, length, slice_index_or, if◌then◌else◌}
use Rattle.page_word.specs.Word.{bits_of}
use Rattle.page_check_bits.specs.CheckBits.{check_list}
use Rattle.line_mode.specs.declared.modes.LineMode.{LineMode}
use Rattle.line_page.specs.Pattern.{is_bit, stands_at, has}

-- "D0 to D47, then S15 to S0"
unfoldable pub sent_bits : (word : ℕ) → List Bool
sent_bits w = bits_of 48 w ++ check_list w

-- The positions from 1 to n for which a test holds, in order.
unfoldable pub positions_to : (test : ℕ → Bool) (n : ℕ) → List ℕ
positions_to test zero = []
positions_to test (suc n) =
    let before = positions_to test n in if test (suc n) then before ++ (suc n ∷ []) else before

-- Whether a page with these bits has a transition at a position, here n + 1. If it is one for bits, its bit is the one that has as many before it as there
-- are positions for bits among 1 to n. Position 0 there is none.
unfoldable pub has_transition : (mode : LineMode) (bits : List Bool) (position : ℕ) → Bool
has_transition mode bits zero = false
has_transition mode bits (suc n) = has (stands_at mode (suc n)) (slice_index_or bits (length (positions_to is_bit n)) false)

-- A page's transitions: those of its 157 positions that have one.
unfoldable pub transitions : (mode : LineMode) (word : ℕ) → List ℕ
transitions mode w = positions_to (has_transition mode (sent_bits w)) 157

-- "at nominal spacing from a given first reading modulo 2^32": position 1 has the first reading, and n positions after it there is this. Position 0 there is none.
abbrev pub reading_at : (spacing first position : ℕ) → ℕ
reading_at spacing first zero = 0
reading_at spacing first (suc n) = (first + n * spacing) % 2 ^ 32

-- A page's readings, one for each transition.
unfoldable pub readings : (mode : LineMode) (word first : ℕ) → List ℕ
readings mode w first = map (reading_at mode.spacing first) (transitions mode w)

-- The number of a page's transitions, and so of its readings.
unfoldable pub edge_count : (mode : LineMode) (word : ℕ) → ℕ
edge_count mode w = length (transitions mode w)
