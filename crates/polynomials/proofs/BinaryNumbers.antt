-- The number that a list of bits is, highest first: its size, its parts, its bits, and that adding polynomials is the exclusive or of their numbers.
use mathlib.Core.Path.{◌≡◌, refl, sym, ap, ap₂, ◌∙◌}
use mathlib.Core.Bool.{Bool, true, false, cond, xor}
use mathlib.Core.List.{List, [], ◌∷◌, ◌++◌}
use Prim.Native.Nat.{ℕ, zero, suc, ◌+◌, ◌-◌, ◌*◌, ◌/◌, ◌%◌, ◌^◌, ◌<◌}
use native.Mathlib.Nat.{le_of_suc-le-suc, not-suc-le-zero, mul_assoc, add-mul, add_assoc, pow-suc, mul_comm, zero-mul, one-mul, zero-add, mul-one, add-zero, mod-one, mod-eq_of_lt, div-one}
use native.Mathlib.Numerals.{one-add}
use native.Mathlib.Omega.{arith}
use lib.ListN.{length, get_or, replicate}
use lib.Arith.{digits_div}
use lib.Bits.{bit_xor, xor_step, differ}
use lib.Pow.{mod-pow-add, shr-shr}
use borrow.Author.Tests.{eqb-true, eqb-false}
use Rattle.page_word.specs.Word.{odd}
use Rattle.polynomials.specs.Polynomials.{plus, scaled}
use Rattle.polynomials.specs.Binary.{binary, numeral, digits_of}
use Rattle.polynomials.proofs.BinarySums.{no_multiple}

-- A bit as a number.
abbrev pub bit : Bool → ℕ
bit b = cond b 1 0

bit_below : (b : Bool) → bit b < 2
bit_below true = omega arith
bit_below false = omega arith

-- The number of ones in a list of bits.
abbrev pub trues : List Bool → ℕ
trues [] = 0
trues (b ∷ l) = bit b + trues l

pub trues_append : (l r : List Bool) → trues (l ++ r) ≡ trues l + trues r
trues_append [] r = omega arith
trues_append (b ∷ l) r = ap (λ (n : ℕ). bit b + n) (trues_append l r) ∙ sym (add_assoc (bit b) (trues l) (trues r))

-- The highest bit apart.
pub highest : (b : Bool) (p : List Bool) → numeral (b ∷ p) ≡ bit b * 2 ^ length p + numeral p
highest true p = ap (λ (x : ℕ). x + numeral p) (sym (one-mul (2 ^ length p)))
highest false p = ap (λ (x : ℕ). x + numeral p) (sym (zero-mul (2 ^ length p)))

pub below : (p : List Bool) → numeral p < 2 ^ length p
below [] = omega arith
below (true ∷ p) = let h = below p in let s = pow-suc 2 (length p) in omega arith
below (false ∷ p) = let h = below p in let s = pow-suc 2 (length p) in omega arith

-- The number of a list of bits after a number n that stands before them: what a register does with one bit after the other.
abbrev pub numeral_after : ℕ → List Bool → ℕ
numeral_after n [] = n
numeral_after n (b ∷ p) = numeral_after (n * 2 + bit b) p

pub after : (n : ℕ) (p : List Bool) → numeral_after n p ≡ n * 2 ^ length p + numeral p
after n [] = sym (add-zero (n * 1) ∙ mul-one n)
after n (b ∷ p) =
    after (n * 2 + bit b) p
    ∙ ap (λ (x : ℕ). x + numeral p) (add-mul (n * 2) (bit b) (2 ^ length p))
    ∙ add_assoc (n * 2 * 2 ^ length p) (bit b * 2 ^ length p) (numeral p)
    ∙ ap₂ ◌+◌ (mul_assoc n 2 (2 ^ length p) ∙ ap (λ (x : ℕ). n * x) (mul_comm 2 (2 ^ length p) ∙ sym (pow-suc 2 (length p)))) (sym (highest b p))

pub from_zero : (p : List Bool) → numeral p ≡ numeral_after 0 p
from_zero p = sym (after 0 p ∙ ap (λ (x : ℕ). x + numeral p) (zero-mul (2 ^ length p)) ∙ zero-add (numeral p))

-- A bit more at the end.
after_last : (n : ℕ) (p : List Bool) (b : Bool) → numeral_after n (p ++ (b ∷ [])) ≡ numeral_after n p * 2 + bit b
after_last n [] b = refl
after_last n (a ∷ p) b = after_last (n * 2 + bit a) p b

pub with_last : (p : List Bool) (b : Bool) → numeral (p ++ (b ∷ [])) ≡ numeral p * 2 + bit b
with_last p b = from_zero (p ++ (b ∷ [])) ∙ after_last 0 p b ∙ ap (λ (n : ℕ). n * 2 + bit b) (sym (from_zero p))

differ_bits : (a b : Bool) → differ (bit a) (bit b) ≡ bit (xor a b)
unfolding xor
differ_bits true true = refl
differ_bits true false = refl
differ_bits false true = refl
differ_bits false false = refl

-- The lowest bit as a number.
pub odd_bit : (n : ℕ) → bit (odd n) ≡ n % 2
odd_bit n = by (odd n) refl
  where
    by : (t : Bool) → odd n ≡ t → bit t ≡ n % 2
    by true e = let h : n % 2 ≡ 1 = eqb-true (n % 2) 1 e in sym h
    by false e = let h = eqb-false (n % 2) 1 e in omega arith

-- The exclusive or of two numbers, one bit longer each.
xor_longer : (x y : ℕ) (a b : Bool) → bit_xor (x * 2 + bit a) (y * 2 + bit b) ≡ bit_xor x y * 2 + bit (xor a b)
xor_longer x y a b =
    xor_step (x * 2 + bit a) (y * 2 + bit b)
    ∙ ap₂ (λ (u v : ℕ). bit_xor u v * 2 + differ ((x * 2 + bit a) % 2) ((y * 2 + bit b) % 2)) (half x a) (half y b)
    ∙ ap₂ (λ (u v : ℕ). bit_xor x y * 2 + differ u v) (parity x a) (parity y b)
    ∙ ap (λ (u : ℕ). bit_xor x y * 2 + u) (differ_bits a b)
  where
    half : (n : ℕ) (c : Bool) → (n * 2 + bit c) / 2 ≡ n
    half n c = let h = bit_below c in omega arith

    parity : (n : ℕ) (c : Bool) → (n * 2 + bit c) % 2 ≡ bit c
    parity n c = let h = bit_below c in omega arith

-- Adding polynomials of one length is the exclusive or of their numbers.
plus_after : (x y : ℕ) (p q : List Bool) → length p ≡ length q → numeral_after (bit_xor x y) (plus binary p q) ≡ bit_xor (numeral_after x p) (numeral_after y q)
plus_after x y [] [] h = refl
plus_after x y [] (b ∷ q) h = cc h
plus_after x y (a ∷ p) [] h = cc h
plus_after x y (a ∷ p) (b ∷ q) h =
    ap (λ (n : ℕ). numeral_after n (plus binary p q)) (sym (xor_longer x y a b)) ∙ plus_after (x * 2 + bit a) (y * 2 + bit b) p q (cc h)

pub numeral_plus : (p q : List Bool) → length p ≡ length q → numeral (plus binary p q) ≡ bit_xor (numeral p) (numeral q)
numeral_plus p q h = from_zero (plus binary p q) ∙ plus_after 0 0 p q h ∙ ap₂ bit_xor (sym (from_zero p)) (sym (from_zero q))

pub digits_length : (n s : ℕ) → length (digits_of n s) ≡ n
digits_length zero s = refl
digits_length (suc n) s = ap suc (digits_length n s)

odd_last : (x : ℕ) (b : Bool) → odd (x * 2 + bit b) ≡ b
odd_last x true = let e : (x * 2 + 1) % 2 ≡ 1 = omega arith in rw e
odd_last x false = let e : (x * 2 + 0) % 2 ≡ 0 = omega arith in rw e

-- A list is the digits of its number, whatever stands before it,
digits_after : (x : ℕ) (p : List Bool) → digits_of (length p) (numeral_after x p) ≡ p
digits_after x [] = refl
digits_after x (b ∷ p) =
    ap₂ ◌∷◌
    (ap (λ (s : ℕ). odd (s / 2 ^ length p)) (after (x * 2 + bit b) p)
    ∙ ap odd (digits_div (x * 2 + bit b) (below p)) ∙ odd_last x b)
    (digits_after (x * 2 + bit b) p)

pub digits_numeral : (p : List Bool) → digits_of (length p) (numeral p) ≡ p
digits_numeral p = ap (digits_of (length p)) (from_zero p) ∙ digits_after 0 p

-- and a number that has no more digits is the number of its digits.
numeral_after_digits : (n s x : ℕ) → numeral_after x (digits_of n s) ≡ x * 2 ^ n + s % 2 ^ n
numeral_after_digits zero s x = sym (ap (λ (r : ℕ). x * 1 + r) (mod-one s) ∙ add-zero (x * 1) ∙ mul-one x)
numeral_after_digits (suc n) s x =
    numeral_after_digits n s (x * 2 + bit (odd (s / 2 ^ n)))
    ∙ ap (λ (d : ℕ). (x * 2 + d) * 2 ^ n + s % 2 ^ n) (odd_bit (s / 2 ^ n))
    ∙ ap (λ (r : ℕ). r + s % 2 ^ n) (add-mul (x * 2) (s / 2 ^ n % 2) (2 ^ n))
    ∙ add_assoc (x * 2 * 2 ^ n) (s / 2 ^ n % 2 * 2 ^ n) (s % 2 ^ n)
    ∙ ap₂ ◌+◌ (mul_assoc x 2 (2 ^ n) ∙ ap (λ (r : ℕ). x * r) (mul_comm 2 (2 ^ n) ∙ sym (pow-suc 2 n)))
    (sym (mod-pow-add s 1 n) ∙ ap (λ (k : ℕ). s % 2 ^ k) (one-add n))

pub numeral_digits : (n s : ℕ) → s < 2 ^ n → numeral (digits_of n s) ≡ s
numeral_digits n s h = from_zero (digits_of n s) ∙ numeral_after_digits n s 0 ∙ ap₂ ◌+◌ (zero-mul (2 ^ n)) (mod-eq_of_lt h) ∙ zero-add s

-- The lowest digit stands at the end.
pub digits_last : (n s : ℕ) → digits_of (suc n) s ≡ digits_of n (s / 2) ++ (odd s ∷ [])
digits_last zero s = ap (λ (x : ℕ). odd x ∷ []) (div-one s)
digits_last (suc n) s =
    ap₂ ◌∷◌ (ap odd (ap (λ (k : ℕ). s / 2 ^ k) (sym (one-add n)) ∙ sym (shr-shr s 1 n))) (digits_last n s)

-- A list times a bit, and a list of zeros, as numbers.
pub numeral_zeros : (n : ℕ) → numeral (replicate n false) ≡ 0
numeral_zeros zero = refl
numeral_zeros (suc n) = zero-add (numeral (replicate n false)) ∙ numeral_zeros n

one_multiple : (p : List Bool) → scaled binary true p ≡ p
one_multiple [] = refl
one_multiple (a ∷ p) = ap (λ (l : List Bool). a ∷ l) (one_multiple p)

pub numeral_scaled : (b : Bool) (p : List Bool) → numeral (scaled binary b p) ≡ bit b * numeral p
numeral_scaled true p = ap numeral (one_multiple p) ∙ sym (one-mul (numeral p))
numeral_scaled false p = ap numeral (no_multiple p) ∙ numeral_zeros (length p) ∙ sym (zero-mul (numeral p))

-- The digit at a place.
pub digit_at : (n s j : ℕ) → j < n → get_or (digits_of n s) j false ≡ odd (s / 2 ^ (n - suc j))
digit_at zero s j h = absurd (not-suc-le-zero h)
digit_at (suc n) s zero h = ap (λ (k : ℕ). odd (s / 2 ^ k)) (let e : n ≡ suc n - 1 = omega arith in e)
digit_at (suc n) s (suc j) h =
    digit_at n s j (le_of_suc-le-suc h) ∙ ap (λ (k : ℕ). odd (s / 2 ^ k)) (let e : n - suc j ≡ suc n - suc (suc j) = omega arith in e)
