-- The texts of a listing, as bytes, and its numbers.
use Rattle.std.specs.Prelude.{ℕ, List, [], ◌∷◌, if◌then◌else◌}
use Prim.Native.Char.{code}
use Prim.Native.String.{String, [] as empty, ◌∷◌ as ◌then◌}
use Rattle.io.specs.Digits.{last_digits}
use Rattle.answers.specs.Choices.{◌<?◌}

-- The bytes of a text, letter by letter: each letter's number in ASCII.
abbrev pub text : String → List ℕ
text empty = []
text (letter then rest) = code letter ∷ text rest

-- How many decimal digits a number has. No number of a listing is above 8 000, the most readings, so none has more than four.
abbrev pub places : (number : ℕ) → ℕ
places n = if n <? 10 then 1 else if n <? 100 then 2 else if n <? 1000 then 3 else 4

-- A number in decimal, without padding.
unfoldable pub decimal : (number : ℕ) → List ℕ
decimal n = last_digits 10 (places n) n

-- "12 hex digits, small letters": the word as a number, D47 in the highest digit.
unfoldable pub hex_digits : (word : ℕ) → List ℕ
hex_digits word = last_digits 16 12 word
