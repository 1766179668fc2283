-- 01, "The bench listing".
use Rattle.line_reader.specs.Endings.{Ending}
use Rattle.std.specs.Prelude.{ℕ, ◌+◌, ◌*◌, ◌%◌, Bool, true, false, List, [], ◌∷◌, ◌++◌, Result, Ok, Err, length, drop, if◌then◌else◌}
use Rattle.answers.specs.Choices.{◌<?◌, ◌=?◌}
use Rattle.answers.specs.declared.Refusal.{Refusal}
use Rattle.answers.specs.declared.Refusal.TheVariants.{Room, Mode, Odd}
use Rattle.answers.specs.Numbers.{number_of}
use Rattle.line_mode.specs.Modes.{mode_of, by_mode}
use Rattle.line_reader.specs.declared.endings.Broken.TheVariants.{Gap, Cut, Check}
use Rattle.line_captures.specs.Captures.{attempts}
use Rattle.bench_listing.specs.Words.{text, decimal, hex_digits}

-- What an input is: a capture in mode 0 or 1, or refused.
abbrev pub Given : Type 0
Given = Result ℕ Refusal

-- In a mode that there is: "`refused 12` (over 32 001 bytes) or `refused 15` (the bytes after the first are no multiple of four), in that order."
abbrev pub given_in : (mode : ℕ) (bytes : List ℕ) → Given
given_in mode bytes =
    if 32001 <? length (mode ∷ bytes) then Err Room
    else if length bytes % 4 =? 0 then Ok mode
    else Err Odd

-- "Input: a mode byte, then readings of four bytes, low first, at most 8 000. Otherwise one line `refused 14` (mode missing or wrong)", before the others.
unfoldable pub given : (input : List ℕ) → Given
given [] = Err Mode
given (mode ∷ bytes) = by_mode (mode_of mode) (λ m. given_in mode bytes) (Err Mode)

-- "four bytes, low first" as a number,
abbrev pub reading : (a b c d : ℕ) → ℕ
reading a b c d = a + 256 * b + 65536 * c + 16777216 * d

-- and the readings of a row of bytes. Fewer than four bytes are no reading.
unfoldable pub readings_of : (bytes : List ℕ) → List ℕ
readings_of (a ∷ b ∷ c ∷ d ∷ rest) = reading a b c d ∷ readings_of rest
readings_of (a ∷ b ∷ c ∷ []) = []
readings_of (a ∷ b ∷ []) = []
readings_of (a ∷ []) = []
readings_of [] = []

-- "The zero page alone gives `1 good 000000000000` (12 hex digits, small letters) as its line; other words are `gap` and `check`", and `cut`.
abbrev pub ending_word : Ending → List ℕ
ending_word (Ok word) = text "good " ++ hex_digits word
ending_word (Err Gap) = text "gap"
ending_word (Err Cut) = text "cut"
ending_word (Err Check) = text "check"

-- "Each attempt has one line, numbered from 1."
unfoldable pub attempt_line : (n : ℕ) → Ending → List ℕ
attempt_line n ending = decimal n ++ text " " ++ ending_word ending ++ text "\n"

-- The lines of attempts, the first of which has this number.
unfoldable pub attempt_lines : (n : ℕ) → List Ending → List ℕ
attempt_lines n [] = []
attempt_lines n (ending ∷ rest) = attempt_line n ending ++ attempt_lines (n + 1) rest

-- Whether an attempt gave a good page.
abbrev pub is_good : Ending → Bool
is_good (Ok word) = true
is_good (Err broken) = false

-- The number of good pages.
unfoldable pub good_ones : List Ending → ℕ
good_ones [] = 0
good_ones (ending ∷ rest) = (if is_good ending then 1 else 0) + good_ones rest

-- "`bad` counts every attempt that isn't good".
unfoldable pub bad_ones : List Ending → ℕ
bad_ones [] = 0
bad_ones (ending ∷ rest) = (if is_good ending then 0 else 1) + bad_ones rest

-- "mode 1 prints LSM"
abbrev pub mode_name : (mode : ℕ) → List ℕ
mode_name mode = if mode =? 1 then text "LSM" else text "HSM"

-- "mode HSM edges 3": all readings are counted, dropped ones too.
unfoldable pub first_line : (mode edges : ℕ) → List ℕ
first_line mode edges = text "mode " ++ mode_name mode ++ text " edges " ++ decimal edges ++ text "\n"

-- "pages 0 bad 1"
unfoldable pub last_line : (pages bad : ℕ) → List ℕ
last_line pages bad = text "pages " ++ decimal pages ++ text " bad " ++ decimal bad ++ text "\n"

-- The listing of a capture, asked in modes 0 and 1 and of at most 8 000 readings only. "With no readings the two outer lines stand alone, all counts 0."
unfoldable pub capture_listing : (mode : ℕ) (capture : List ℕ) → List ℕ
capture_listing mode capture =
    let found = attempts mode capture in
    first_line mode (length capture) ++ attempt_lines 1 found ++ last_line (good_ones found) (bad_ones found)

-- "one line `refused 14`"
unfoldable pub refused_line : Refusal → List ℕ
refused_line refusal = text "refused " ++ decimal (number_of refusal) ++ text "\n"

-- The listing by what is given, where these are the bytes behind the mode,
abbrev pub listing_by : Given → (bytes : List ℕ) → List ℕ
listing_by (Err refusal) bytes = refused_line refusal
listing_by (Ok mode) bytes = capture_listing mode (readings_of bytes)

-- and the readings that are listed.
abbrev pub readings_by : Given → (bytes : List ℕ) → List ℕ
readings_by (Err refusal) bytes = []
readings_by (Ok mode) bytes = readings_of bytes

unfoldable pub listing : (input : List ℕ) → List ℕ
listing input = listing_by (given input) (drop 1 input)

unfoldable pub listed_readings : (input : List ℕ) → List ℕ
listed_readings input = readings_by (given input) (drop 1 input)
