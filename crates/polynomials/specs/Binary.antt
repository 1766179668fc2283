-- Polynomials whose coefficients are zero and one, and the numbers that have these as their bits.
use Rattle.std.specs.Prelude.{ℕ, zero, suc, ◌+◌, ◌/◌, ◌^◌, Bool, false, ◌&&◌, List, [], ◌∷◌, length, if◌then◌else◌}
use Rattle.std.specs.Bool.{xor}
use Rattle.page_word.specs.Word.{odd}
use Rattle.polynomials.specs.Polynomials.{Coefficients}

-- A coefficient is a Bool, true for one. They are added without carry.
abbrev pub binary : Coefficients Bool
binary = record { none = false; sum = xor; product = ◌&&◌ }

-- The number that a list of bits is, highest first.
abbrev pub numeral : (bits : List Bool) → ℕ
numeral [] = 0
numeral (b ∷ bs) = (if b then 2 ^ length bs else 0) + numeral bs

-- The lowest n bits of a number, highest first.
abbrev pub digits_of : (n number : ℕ) → List Bool
digits_of zero s = []
digits_of (suc n) s = odd (s / 2 ^ n) ∷ digits_of n s
