-- 01, "The page": "A word is D0 + 2·D1 + ... + 2^47·D47."
use Rattle.std.specs.Prelude.{ℕ, zero, suc, ◌/◌, ◌%◌, ◌^◌, Bool, false, ◌||◌, List, [], ◌∷◌}
use Rattle.answers.specs.Choices.{◌≤?◌, ◌=?◌}

-- Whether the lowest bit is one.
abbrev pub odd : (number : ℕ) → Bool
odd number = number % 2 =? 1

-- Whether bit n of a number is one, the lowest bit being bit 0.
abbrev pub has_bit : (number n : ℕ) → Bool
has_bit number n = odd (number / 2 ^ n)

-- The first n bits of a number, lowest first: D0, D1, ... Bits further up are not looked at.
abbrev pub bits_of : (n number : ℕ) → List Bool
bits_of zero w = []
bits_of (suc n) w = odd w ∷ bits_of n (w / 2)

-- Row 13 of the refusals, Wide: "word 2^48 or more". Any other number is a word.
abbrev pub is_wide : (number : ℕ) → Bool
is_wide number = 2 ^ 48 ≤? number

-- Whether a number is one of a list's.
abbrev pub among : (number : ℕ) (list : List ℕ) → Bool
among p [] = false
among p (q ∷ rest) = p =? q || among p rest
