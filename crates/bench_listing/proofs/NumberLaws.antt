-- Numbers as text: the fewest decimal digits, and the twelve hexadecimal digits of a word.
use mathlib.Core.Path.{◌≡◌, refl, ap, ap₂, ◌∙◌}
use mathlib.Core.Bool.{Bool, true, false, cond}
use mathlib.Core.List.{List, [], ◌∷◌, ◌++◌}
use Prim.Native.Nat.{ℕ, zero, suc, ◌+◌, ◌-◌, ◌*◌, ◌/◌, ◌%◌, ◌^◌, ◌<◌, ◌≤◌}
use native.Mathlib.Nat.{pow-le-pow_right, pow-suc, mod-lt, one-le-pow}
use native.Mathlib.Numerals.{add-one}
use native.Mathlib.Omega.{arith}
use borrow.Author.Tests.{lt-ltb, le-ltb, ltb-true, ltb-false}
use lib.Arith.{digits_div, digits_mod, mod-mul}
use lib.Dec.{ltb}
use lib.ListN.{length, length-append}
use Rattle.io.specs.Digits.{hex_digit_ascii, last_digits as digits, IsDigitCount}
use Rattle.bench_listing.specs.Words.{places, decimal, hex_digits}

-- A number below 10 000 has one to four digits.
fewest : (n k : ℕ) → n < 10000 → IsDigitCount 10 1 n k → k ≡ places n
fewest n zero h f = absurd (let l = f.0 in omega arith)
fewest n (suc zero) h f = let a : n < 10 = f.1 in rw (lt-ltb n 10 a)
fewest n (suc (suc zero)) h f =
    let a : n < 100 = f.1 in
    let b : 10 ≤ n = f.2 (omega arith) in rw (le-ltb n 10 b, lt-ltb n 100 a)
fewest n (suc (suc (suc zero))) h f =
    let a : n < 1000 = f.1 in
    let b : 100 ≤ n = f.2 (omega arith) in
    let c : 10 ≤ n = omega arith in rw (le-ltb n 10 c, le-ltb n 100 b, lt-ltb n 1000 a)
fewest n (suc (suc (suc (suc zero)))) h f =
    let b : 1000 ≤ n = f.2 (omega arith) in
    let c : 10 ≤ n = omega arith in
    let d : 100 ≤ n = omega arith in rw (le-ltb n 10 c, le-ltb n 100 d, le-ltb n 1000 b)
fewest n (suc (suc (suc (suc (suc j))))) h f =
    let b = f.2 (omega arith) in
    let p : 10 ^ 4 ≤ 10 ^ (suc (suc (suc (suc (suc j)))) - 1) = pow-le-pow_right {n = 10} (omega arith) {i = 4} {j = suc (suc (suc (suc (suc j)))) - 1} (omega arith) in
    absurd (omega arith)

pub as_decimal : (n k : ℕ) (text : List ℕ) → n < 10000 → IsDigitCount 10 1 n k → text ≡ digits 10 k n → text ≡ decimal n
unfolding decimal
as_decimal n k text h f e = e ∙ ap (λ (j : ℕ). digits 10 j n) (fewest n k h f)

length_digits : (b k n : ℕ) → length (digits b k n) ≡ k
length_digits b zero n = refl
length_digits b (suc k) n =
    length-append (digits b k (n / b)) (hex_digit_ascii (n % b) ∷ []) ∙ ap (λ (j : ℕ). j + 1) (length_digits b k (n / b)) ∙ add-one k

pub decimal_short : (n : ℕ) → length (decimal n) ≤ 4
unfolding decimal
decimal_short n = let l = length_digits 10 (places n) n in let p = least (ltb n 10) (ltb n 100) (ltb n 1000) in omega arith
  where
    least : (s t u : Bool) → cond s 1 (cond t 2 (cond u 3 4)) ≤ 4
    least true t u = omega arith
    least false true u = omega arith
    least false false true = omega arith
    least false false false = omega arith

pub hex_length : (w : ℕ) → length (hex_digits w) ≡ 12
unfolding hex_digits
hex_length w = length_digits 16 12 w

-- The last k digits are those of the number below b^k.
last_digits : (b k n : ℕ) → 0 < b → digits b k (n % b ^ k) ≡ digits b k n
last_digits b zero n h = refl
last_digits b (suc k) n h =
    ap (λ (m : ℕ). digits b k (m / b) ++ (hex_digit_ascii (m % b) ∷ [])) split
    ∙ ap₂ (λ (q r : ℕ). digits b k q ++ (hex_digit_ascii r ∷ [])) (digits_div (n / b % b ^ k) (mod-lt n h)) (digits_mod (n / b % b ^ k) (mod-lt n h))
    ∙ ap (λ (l : List ℕ). l ++ (hex_digit_ascii (n % b) ∷ [])) (last_digits b k (n / b) h)
  where
    split : n % b ^ suc k ≡ (n / b % b ^ k) * b + n % b
    split = ap (λ (x : ℕ). n % x) (pow-suc b k) ∙ mod-mul n {m = b ^ k} {c = b} (one-le-pow k b h) h

twelve : (n k : ℕ) → n < 2 ^ 48 → IsDigitCount 16 12 n k → k ≡ 12
twelve n k h f = among (ltb 12 k) refl
  where
    among : (t : Bool) → ltb 12 k ≡ t → k ≡ 12
    among true e =
        let b = f.2 (ltb-true 12 k e) in
        let l = ltb-true 12 k e in
        let p : 16 ^ 12 ≤ 16 ^ (k - 1) = pow-le-pow_right {n = 16} (omega arith) {i = 12} {j = k - 1} (omega arith) in absurd (omega arith)
    among false e = let l = ltb-false 12 k e in let m = f.0 in omega arith

pub as_word : (w k : ℕ) (text : List ℕ) → IsDigitCount 16 12 (w % 2 ^ 48) k → text ≡ digits 16 k (w % 2 ^ 48) → text ≡ hex_digits w
unfolding hex_digits
as_word w k text f e =
    e ∙ ap (λ (j : ℕ). digits 16 j (w % 2 ^ 48)) (twelve (w % 2 ^ 48) k (omega arith) f) ∙ last_digits 16 12 w (omega arith)
