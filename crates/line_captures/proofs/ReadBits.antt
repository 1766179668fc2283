-- The register of a reader. Bits that came one after the other are the register's, the first lowest; 64 of them fill it. So the bits sent for
-- a word are found to be that word, with check bits that agree; and 64 bits that agree are those sent for their word.
use mathlib.Core.Path.{◌≡◌, refl, sym, ap, ap₂, ◌∙◌}
use mathlib.Core.Bool.{Bool, true, false, cond}
use mathlib.Core.List.{List, [], ◌∷◌, ◌++◌}
use Prim.Native.Nat.{ℕ, suc, ◌+◌, ◌-◌, ◌*◌, ◌/◌, ◌%◌, ◌^◌, ◌<◌}
use native.Mathlib.Nat.{add-zero, zero-add, zero-mul, mul-one, one-mul, div-one, pow-suc, add-mul-div_right, mod-eq_of_lt}
use native.Mathlib.Numerals.{one-add}
use native.Mathlib.Omega.{arith}
use lib.ListN.{length, take, drop, take-append-drop, length-drop}
use lib.Seq.{take_at, drop_at}
use lib.Pow.{pow-add, pow_pos, shr-shr}
use borrow.Author.Tests.{eqb-true, eq-eqb}
use Rattle.page_word.specs.Word.{odd, bits_of}
use Rattle.polynomials.specs.Binary.{numeral, digits_of}
use Rattle.polynomials.proofs.BinaryNumbers.{bit, digits_numeral}
use Rattle.page_check_bits.specs.CheckBits.{remainder, check_list, check_bits, agrees}
use Rattle.page_check_bits.proofs.CheckTheorem.{check_list_length}
use Rattle.page_check_bits.proofs.WordBits.{bits_length, sum_of, sum_bits}
use Rattle.line_writer.specs.Transitions.{sent_bits}
use Rattle.line_writer.proofs.SentBits.{sent_length}
use Rattle.line_captures.proofs.GapMachine.{pushed}

-- A bit enters a register of 64 at the top.
top : (b : Bool) (k n : ℕ) → k + n ≡ 63 → cond b (2 ^ 63) 0 ≡ bit b * 2 ^ k * 2 ^ n
top true k n h = ap (λ (j : ℕ). 2 ^ j) (sym h) ∙ pow-add 2 k n ∙ ap (λ (x : ℕ). x * 2 ^ n) (sym (one-mul (2 ^ k)))
top false k n h = omega arith

-- Bits pushed onto a register stand above what is left of it, the first of them lowest.
pushed_sum : (register : ℕ) (bits : List Bool) (k : ℕ) → length bits + k ≡ 64
    → pushed register bits ≡ register / 2 ^ length bits + sum_of bits * 2 ^ k
pushed_sum register [] k h = sym (ap₂ ◌+◌ (div-one register) (zero-mul (2 ^ k)) ∙ add-zero register)
pushed_sum register (b ∷ bits) k h =
    pushed_sum (register / 2 + cond b (2 ^ 63) 0) bits (suc k) (omega arith)
    ∙ ap₂ (λ (x y : ℕ). (register / 2 + x) / 2 ^ length bits + sum_of bits * y) (top b k (length bits) (omega arith)) (pow-suc 2 k)
    ∙ ap (λ (x : ℕ). x + sum_of bits * (2 ^ k * 2)) (add-mul-div_right (register / 2) (bit b * 2 ^ k) (pow_pos (length bits)))
    ∙ ap (λ (x : ℕ). x + bit b * 2 ^ k + sum_of bits * (2 ^ k * 2)) (shr-shr register 1 (length bits) ∙ ap (λ (n : ℕ). register / 2 ^ n) (one-add (length bits)))
    ∙ omega arith

-- After 64 bits nothing is left of a zero.
pub pushed_all : (bits : List Bool) → length bits ≡ 64 → pushed 0 bits ≡ sum_of bits
pushed_all bits h =
    pushed_sum 0 bits 0 (omega arith) ∙ ap₂ ◌+◌ (ap (λ (n : ℕ). 0 / 2 ^ n) h) (mul-one (sum_of bits)) ∙ zero-add (sum_of bits)

-- A list of bits is the bits of its sum.
bits_of_sum : (bits : List Bool) → bits_of (length bits) (sum_of bits) ≡ bits
bits_of_sum [] = refl
bits_of_sum (b ∷ bits) = ap₂ ◌∷◌ (lowest b) (ap (bits_of (length bits)) (others b) ∙ bits_of_sum bits)
  where
    lowest : (c : Bool) → odd (bit c + 2 * sum_of bits) ≡ c
    lowest true = let e : (1 + 2 * sum_of bits) % 2 ≡ 1 = omega arith in rw e
    lowest false = let e : (0 + 2 * sum_of bits) % 2 ≡ 0 = omega arith in rw e

    others : (c : Bool) → (bit c + 2 * sum_of bits) / 2 ≡ sum_of bits
    others true = omega arith
    others false = omega arith

-- So 64 bits that came are the bits of the register,
all_bits : (bits : List Bool) → length bits ≡ 64 → bits_of 64 (sum_of bits) ≡ bits
all_bits bits long = ap (λ (n : ℕ). bits_of n (sum_of bits)) (sym long) ∙ bits_of_sum bits

-- and the first 48 those of its word.
first_bits : (bits : List Bool) → length bits ≡ 64 → bits_of 48 (sum_of bits) ≡ take 48 bits
first_bits bits long = ap (take 48) (all_bits bits long)

-- Only the first 48 bits of a number are looked at where its bits are sent,
bits_low : (w : ℕ) → bits_of 48 (w % 2 ^ 48) ≡ bits_of 48 w
bits_low w = ap₂ bits_of (sym (bits_length 48 w)) (sym (sum_bits 48 w)) ∙ bits_of_sum (bits_of 48 w)

-- and where it is checked.
checks_as : (v w : ℕ) → bits_of 48 v ≡ bits_of 48 w → check_list v ≡ check_list w
unfolding check_list
checks_as v w e = ap remainder e

-- The register after the bits of a word: its first 48 are the word's,
sent_first : (w : ℕ) → bits_of 48 (sum_of (sent_bits w)) ≡ bits_of 48 w
unfolding sent_bits
sent_first w = first_bits (sent_bits w) (sent_length w) ∙ take_at (bits_of 48 w) (check_list w) 48 (bits_length 48 w)

-- so its word is that word,
pub sent_word : (w : ℕ) → w < 2 ^ 48 → sum_of (sent_bits w) % 2 ^ 48 ≡ w
sent_word w h = sym (sum_bits 48 (sum_of (sent_bits w))) ∙ ap sum_of (sent_first w) ∙ sum_bits 48 w ∙ mod-eq_of_lt h

-- and the check bits agree.
pub sent_agrees : (w : ℕ) → agrees (sum_of (sent_bits w)) ≡ true
unfolding agrees sent_bits check_bits
sent_agrees w =
    eq-eqb (numeral (drop 48 (bits_of 64 (sum_of (sent_bits w))))) (numeral (check_list (sum_of (sent_bits w))))
    (ap numeral (ap (drop 48) (all_bits (sent_bits w) (sent_length w)) ∙ drop_at (bits_of 48 w) (check_list w) 48 (bits_length 48 w)
    ∙ sym (checks_as (sum_of (sent_bits w)) w (sent_first w))))

-- Two lists of sixteen bits with one number are one list.
same_numeral : (p q : List Bool) → length p ≡ 16 → length q ≡ 16 → numeral p ≡ numeral q → p ≡ q
same_numeral p q l k e = sym (digits_numeral p) ∙ ap₂ digits_of (l ∙ sym k) e ∙ digits_numeral q

-- If 64 bits agree, the last sixteen are the check bits of the first 48,
agreeing_check : (bits : List Bool) → length bits ≡ 64 → agrees (sum_of bits) ≡ true → drop 48 bits ≡ check_list (sum_of bits)
unfolding agrees check_bits
agreeing_check bits long h =
    same_numeral (drop 48 bits) (check_list (sum_of bits)) (length-drop 48 bits ∙ ap (λ (n : ℕ). n - 48) long) (check_list_length (sum_of bits))
    (ap (λ (l : List Bool). numeral (drop 48 l)) (sym (all_bits bits long))
    ∙ eqb-true (numeral (drop 48 (bits_of 64 (sum_of bits)))) (numeral (check_list (sum_of bits))) h)

-- so they are those sent for their word.
pub agreeing : (bits : List Bool) → length bits ≡ 64 → agrees (sum_of bits) ≡ true → bits ≡ sent_bits (sum_of bits % 2 ^ 48)
unfolding sent_bits
agreeing bits long h =
    sym (take-append-drop 48 bits)
    ∙ ap₂ ◌++◌ (sym (first_bits bits long) ∙ sym (bits_low (sum_of bits)))
    (agreeing_check bits long h ∙ sym (checks_as (sum_of bits % 2 ^ 48) (sum_of bits) (bits_low (sum_of bits))))
