-- Bit by bit: a register of sixteen bits that takes the bits of a word, D0 first, holds the remainder of the bits so far.
use mathlib.Core.Path.{◌≡◌, refl, sym, ap, ap₂, ◌∙◌, subst}
use mathlib.Core.Bool.{Bool, true, false, xor}
use mathlib.Core.List.{List, [], ◌∷◌, ◌++◌}
use Prim.Native.Nat.{ℕ, zero, suc, ◌+◌, ◌*◌, ◌/◌, ◌%◌, ◌^◌, ◌≤◌, ◌<◌}
use native.Mathlib.Nat.{zero-add, add-zero, div-one}
use native.Mathlib.Numerals.{add-one, one-add}
use native.Mathlib.Omega.{arith}
use lib.ListN.{length, replicate, length-append}
use lib.Bits.{bit_xor}
use lib.Pow.{shr-shr}
use Rattle.page_word.specs.Word.{odd, bits_of}
use Rattle.polynomials.specs.Polynomials.{plus, divided}
use Rattle.polynomials.specs.Binary.{binary, numeral}
use Rattle.polynomials.proofs.Sums.{plus_comm, plus_length}
use Rattle.polynomials.proofs.BinarySums.{binary_sums, zero_step}
use Rattle.polynomials.proofs.BinaryNumbers.{bit, odd_bit, highest, below, with_last, numeral_plus}
use Rattle.page_check_bits.specs.CheckBits.{generator, remainder}
use Rattle.page_check_bits.proofs.Remainders.{lower, remainder_length, one_more}

-- The first bits of a number, one more: it stands at the end.
pub bits_more : (n w : ℕ) → bits_of (suc n) w ≡ bits_of n w ++ (odd (w / 2 ^ n) ∷ [])
bits_more zero w = ap (λ (x : ℕ). odd x ∷ []) (sym (div-one w))
bits_more (suc n) w =
    ap (λ (l : List Bool). odd w ∷ l) (bits_more n (w / 2)
    ∙ ap (λ (x : ℕ). bits_of n (w / 2) ++ (odd x ∷ [])) (shr-shr w 1 n ∙ ap (λ (k : ℕ). w / 2 ^ k) (one-add n)))

-- A zero at the end of the shorter of two polynomials alters no sum.
padded : (p q : List Bool) → length q ≡ length p + 1 → plus binary p q ≡ plus binary (p ++ (false ∷ [])) q
padded [] [] h = absurd (omega arith)
padded [] (b ∷ []) h = ap (λ (x : Bool). x ∷ []) (sym (binary_sums.nothing b))
padded [] (b ∷ c ∷ q) h = absurd (omega arith)
padded (a ∷ p) [] h = absurd (omega arith)
padded (a ∷ p) (b ∷ q) h = ap (λ (l : List Bool). xor a b ∷ l) (padded p q (omega arith))

-- Seventeen coefficients after a new bit: the register's number twice, and the bit at the top.
pub entered : (r : List Bool) (d : Bool) → length r ≡ 16
    → numeral (plus binary r (d ∷ replicate 16 false)) ≡ bit_xor (numeral r * 2) (bit d * 65536)
entered r d h =
    ap numeral (padded r (d ∷ replicate 16 false) (omega arith))
    ∙ numeral_plus (r ++ (false ∷ [])) (d ∷ replicate 16 false) (length-append r (false ∷ []) ∙ ap (λ (n : ℕ). n + 1) h)
    ∙ ap₂ bit_xor (with_last r false ∙ add-zero (numeral r * 2)) (top d)
  where
    top : (b : Bool) → numeral (b ∷ replicate 16 false) ≡ bit b * 65536
    top true = refl
    top false = refl

-- One step of the division on seventeen coefficients: nothing is taken away below 2^16,
pub step_low : (y : List Bool) → length y ≡ 17 → numeral y < 65536 → numeral (divided binary generator 1 y) ≡ numeral y
step_low [] h l = refl
step_low (false ∷ y) h l = ap numeral (zero_step lower 0 y (omega arith)) ∙ sym (zero-add (numeral y))
step_low (true ∷ y) h l = absurd (let n : length y ≡ 16 = omega arith in let e : numeral (true ∷ y) ≡ 1 * 2 ^ 16 + numeral y = highest true y ∙ ap (λ (k : ℕ). 1 * 2 ^ k + numeral y) n in omega arith)

-- and the divisor from there on.
pub step_high : (y : List Bool) → length y ≡ 17 → 65536 ≤ numeral y → numeral (divided binary generator 1 y) ≡ bit_xor (numeral y) 98309
unfolding xor
step_high [] h l = absurd (omega arith)
step_high (false ∷ y) h l = absurd (let n : length y ≡ 16 = omega arith in let e : numeral (false ∷ y) ≡ 0 * 2 ^ 16 + numeral y = highest false y ∙ ap (λ (k : ℕ). 0 * 2 ^ k + numeral y) n in let b : numeral y < 2 ^ 16 = subst (λ (k : ℕ). numeral y < 2 ^ k) n (below y) in omega arith)
step_high (true ∷ y) h l =
    ap numeral (plus_comm binary_sums lower y) ∙ sym (zero-add (numeral (plus binary y lower))) ∙ numeral_plus (true ∷ y) generator h

-- What holds whenever the loop's next turn is due: the bits of the word below a place have entered.
pub record Going (word register rest place : ℕ) : Type 0 where
  pub left : rest ≡ word / 2 ^ place
  pub held : register ≡ numeral (remainder (bits_of place word))

pub start : (word : ℕ) → Going word 0 word 0
unfolding remainder
start word = record { left = sym (div-one word); held = refl }

-- The register with one more bit of the word, before the divisor is taken away.
abbrev shifted : (register rest : ℕ) → ℕ
shifted register rest = bit_xor (register * 2 ^ 1 % 2 ^ 32) (rest % 2 * 2 ^ 16 % 2 ^ 32)

module _ (word register rest place : ℕ) (g : Going word register rest place) where
  halved : rest / 2 ≡ word / 2 ^ (place + 1)
  halved = ap (λ (x : ℕ). x / 2) g.left ∙ shr-shr word place 1

  seventeen : List Bool
  seventeen = plus binary (remainder (bits_of place word)) (odd (word / 2 ^ place) ∷ replicate 16 false)

  seventeen_long : length seventeen ≡ 17
  unfolding seventeen
  seventeen_long =
      plus_length binary (remainder (bits_of place word)) (odd (word / 2 ^ place) ∷ replicate 16 false) (omega (arith, remainder_length (bits_of place word)))

  small : register < 65536
  small = rw g.held (subst (λ (n : ℕ). numeral (remainder (bits_of place word)) < 2 ^ n) (remainder_length (bits_of place word)) (below (remainder (bits_of place word))))

  register_doubled : register * 2 ^ 1 % 2 ^ 32 ≡ register * 2
  register_doubled = let s = small in omega arith

  raised : rest % 2 * 2 ^ 16 % 2 ^ 32 ≡ rest % 2 * 65536
  raised = omega arith

  is_shifted : shifted register rest ≡ numeral seventeen
  unfolding seventeen
  is_shifted =
      ap₂ bit_xor register_doubled raised
      ∙ ap₂ (λ (a b : ℕ). bit_xor (a * 2) (b * 65536)) g.held (sym (odd_bit rest) ∙ ap (λ (x : ℕ). bit (odd x)) g.left)
      ∙ sym (entered (remainder (bits_of place word)) (odd (word / 2 ^ place)) (remainder_length (bits_of place word)))

  stepped : divided binary generator 1 seventeen ≡ remainder (bits_of (place + 1) word)
  unfolding seventeen
  stepped =
      sym (one_more (bits_of place word) (odd (word / 2 ^ place)))
      ∙ ap remainder (sym (bits_more place word) ∙ ap (λ (n : ℕ). bits_of n word) (sym (add-one place)))

  turn : (next : ℕ) → numeral (divided binary generator 1 seventeen) ≡ next → Going word next (rest / 2) (place + 1)
  turn next e = record { left = halved; held = sym e ∙ ap numeral stepped }

  -- A turn that takes nothing away,
  pub turn_low : shifted register rest < 65536 → Going word (shifted register rest) (rest / 2) (place + 1)
  turn_low l = turn (shifted register rest) (step_low seventeen seventeen_long (rw is_shifted at l) ∙ sym is_shifted)

  -- and one that takes the divisor away.
  pub turn_high : 65536 ≤ shifted register rest → Going word (bit_xor (shifted register rest) 98309) (rest / 2) (place + 1)
  turn_high l =
      turn (bit_xor (shifted register rest) 98309)
      (step_high seventeen seventeen_long (rw is_shifted at l) ∙ ap (λ (x : ℕ). bit_xor x 98309) (sym is_shifted))
