-- 64 bits are a word and its check bits just if all of them together leave no remainder.
-- Taking in sixteen more bits adds them to the remainder and makes sixteen steps, which leave nothing only of nothing.
use mathlib.Core.Path.{◌≡◌, refl, sym, ap, ap₂, ◌∙◌}
use mathlib.Core.Bool.{Bool, true, false, xor}
use mathlib.Core.List.{List, ◌++◌}
use Prim.Native.Nat.{ℕ, ◌/◌, ◌^◌}
use native.Mathlib.Omega.{arith}
use lib.Dec.{eqb}
use lib.ListN.{length, replicate, drop}
use lib.Seq.{drop_at}
use borrow.Author.Tests.{eq-eqb, ne_eqb, eqb-true, eqb-false}
use Rattle.page_word.specs.Word.{bits_of}
use Rattle.polynomials.specs.Polynomials.{plus, divided}
use Rattle.polynomials.specs.Binary.{binary, numeral, digits_of}
use Rattle.polynomials.proofs.Sums.{plus_twice, plus_length, plus_append, plus_self, plus_zeros}
use Rattle.polynomials.proofs.BinarySums.{binary_sums}
use Rattle.polynomials.proofs.BinaryNumbers.{digits_numeral}
use Rattle.page_check_bits.specs.CheckBits.{generator, remainder, check_list, check_bits, agrees}
use Rattle.page_check_bits.proofs.Remainders.{remainder_length, more_bits}
use Rattle.page_check_bits.proofs.Multiples.{ended}
use Rattle.page_check_bits.proofs.WordBits.{bits_length, bits_split}

-- Sixteen bits behind a message: they are added to its remainder, and sixteen steps are made.
sixteen_more : (m s : List Bool) → length s ≡ 16 → remainder (m ++ s) ≡ divided binary generator 16 (plus binary (remainder m) s ++ replicate 16 false)
sixteen_more m s h =
    more_bits m s
    ∙ ap₂ (divided binary generator) h (plus_append binary (remainder m) s (replicate 16 false) (omega (arith, remainder_length m)))

same_digits : (p q : List Bool) → length p ≡ length q → numeral p ≡ numeral q → p ≡ q
same_digits p q h e = sym (digits_numeral p) ∙ ap₂ digits_of h e ∙ digits_numeral q

agree_yes : (m s : List Bool) → length s ≡ 16 → s ≡ remainder m → numeral (remainder (m ++ s)) ≡ 0
unfolding xor
agree_yes m s h e =
    ap numeral (sixteen_more m s h
    ∙ ap (λ (l : List Bool). divided binary generator 16 (l ++ replicate 16 false)) (ap (plus binary (remainder m)) e ∙ plus_self binary_sums (remainder m) ∙ ap (λ (n : ℕ). replicate n false) (remainder_length m)))

agree_no : (m s : List Bool) → length s ≡ 16 → numeral (remainder (m ++ s)) ≡ 0 → s ≡ remainder m
agree_no m s h e =
    sym (plus_twice binary_sums (remainder m) s (omega (arith, remainder_length m)))
    ∙ ap (plus binary (remainder m)) (ended 16 0 (plus binary (remainder m) s) (plus_length binary (remainder m) s (omega (arith, remainder_length m)) ∙ h) (sym (sixteen_more m s h) ∙ nothing_left))
    ∙ plus_zeros binary_sums 16 (remainder m) (omega (arith, remainder_length m))
  where
    nothing_left : remainder (m ++ s) ≡ replicate 16 false
    nothing_left = same_digits (remainder (m ++ s)) (replicate 16 false) (remainder_length (m ++ s)) e

-- The code's test is the definition's.
pub agreement : (bits : ℕ) → eqb (numeral (remainder (bits_of 64 bits))) 0 ≡ agrees bits
unfolding agrees check_bits check_list
agreement bits =
    ap (λ (l : List Bool). eqb (numeral (remainder l)) 0) whole
    ∙ by (eqb (numeral s) (numeral (remainder m))) refl
    ∙ ap (λ (l : List Bool). eqb (numeral l) (numeral (remainder m))) (sym tail)
  where
    m : List Bool
    m = bits_of 48 bits

    s : List Bool
    s = bits_of 16 (bits / 2 ^ 48)

    whole : bits_of 64 bits ≡ bits_of 48 bits ++ bits_of 16 (bits / 2 ^ 48)
    whole = bits_split 48 16 bits

    tail : drop 48 (bits_of 64 bits) ≡ bits_of 16 (bits / 2 ^ 48)
    tail = ap (drop 48) whole ∙ drop_at (bits_of 48 bits) (bits_of 16 (bits / 2 ^ 48)) 48 (bits_length 48 bits)

    sixteen : length (bits_of 16 (bits / 2 ^ 48)) ≡ 16
    sixteen = bits_length 16 (bits / 2 ^ 48)

    by : (t : Bool) → eqb (numeral (bits_of 16 (bits / 2 ^ 48))) (numeral (remainder (bits_of 48 bits))) ≡ t
        → eqb (numeral (remainder (bits_of 48 bits ++ bits_of 16 (bits / 2 ^ 48)))) 0 ≡ eqb (numeral (bits_of 16 (bits / 2 ^ 48))) (numeral (remainder (bits_of 48 bits)))
    by true e =
        eq-eqb (numeral (remainder (m ++ s))) 0 (agree_yes m s sixteen (same_digits s (remainder m) (sixteen ∙ sym (remainder_length m)) (eqb-true (numeral s) (numeral (remainder m)) e)))
        ∙ sym e
    by false e =
        ne_eqb (numeral (remainder (m ++ s))) 0 (λ z. eqb-false (numeral s) (numeral (remainder m)) e (ap numeral (agree_no m s sixteen z)))
        ∙ sym e
