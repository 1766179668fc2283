-- 02, request 10: symbols "of 9 bits", "over the field made by x^9 + x^4 + 1 with alpha = 2".
use Rattle.std.specs.Prelude.{ℕ, zero, suc, Bool, true, false, List, [], ◌∷◌}
use Rattle.std.specs.Int.Bits.{bit_xor}
use Rattle.answers.specs.Choices.{◌<?◌}
use Rattle.polynomials.specs.Polynomials.{Coefficients, multiplied, divided}
use Rattle.polynomials.specs.Binary.{binary, numeral, digits_of}

-- A symbol is a number below 512. It stands for the polynomial that has its nine bits as coefficients, the highest bit that of x^8.
abbrev pub is_symbol : (number : ℕ) → Bool
is_symbol number = number <? 512

-- "x^9 + x^4 + 1"
abbrev pub field_polynomial : List Bool
field_polynomial = true ∷ false ∷ false ∷ false ∷ false ∷ true ∷ false ∷ false ∷ false ∷ true ∷ []

-- The sum of two symbols: their bits are added without carry.
infixl 65 ◌⊕◌
abbrev pub ◌⊕◌ : ℕ → ℕ → ℕ
a ⊕ b = bit_xor a b

-- The product of two symbols: the product of their polynomials, which has 17 coefficients, and of this the remainder by x^9 + x^4 + 1: eight steps of long division leave
-- nine coefficients. Of larger numbers only the lowest nine bits are looked at.
infixl 70 ◌⊗◌
unfoldable pub ◌⊗◌ : ℕ → ℕ → ℕ
a ⊗ b = numeral (divided binary field_polynomial 8 (multiplied binary (digits_of 9 a) (digits_of 9 b)))

-- "alpha = 2"
abbrev pub alpha : ℕ
alpha = 2

-- x to the power n.
unfoldable pub raised : (x n : ℕ) → ℕ
raised x zero = 1
raised x (suc n) = raised x n ⊗ x

-- Symbols as coefficients of polynomials.
abbrev pub symbols : Coefficients ℕ
symbols = record { none = 0; sum = ◌⊕◌; product = ◌⊗◌ }
