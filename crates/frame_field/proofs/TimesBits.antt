-- The product by the bits of one factor: alpha times the product with the bits above, and the other factor if the lowest bit is one. The laws of a field for it.
use mathlib.Core.Path.{◌≡◌, refl, sym, ap, ap₂, ◌∙◌}
use mathlib.Core.Bool.{true}
use Prim.Native.Nat.{ℕ, zero, suc, ◌*◌, ◌/◌, ◌%◌, ◌<◌}
use native.Mathlib.Nat.{zero-mul, one-mul}
use native.Mathlib.Omega.{arith}
use lib.Dec.{eqb}
use lib.Bits.{xor_self, xor_mod}
use borrow.Author.Tests.{eqb-true}
use Rattle.page_word.proofs.ComputedTest.{every_below, at_each}
use Rattle.frame_field.specs.Field.{◌⊕◌}
use Rattle.frame_field.proofs.ExclusiveOr.{bit_below, half, swap}
use Rattle.frame_field.proofs.TimesAlpha.{times_alpha, alphas, power, bit_scaled, alpha_zero, alpha_sum, alphas_swap, alphas_zero, alphas_below, alphas_none}
use Rattle.frame_field.proofs.PowersOfAlpha.{by_power}

-- The product of a and the lowest n bits of b.
unfoldable pub times_bits : ℕ → ℕ → ℕ → ℕ
times_bits zero a b = 0
times_bits (suc n) a b = times_alpha (times_bits n a (b / 2)) ⊕ (b % 2 * a)

abbrev pub times : ℕ → ℕ → ℕ
times a b = times_bits 9 a b

bit_times : (x a : ℕ) → x < 2 → x * times_alpha a ≡ times_alpha (x * a)
bit_times zero a h = zero-mul (times_alpha a) ∙ sym (ap times_alpha (zero-mul a) ∙ alpha_zero)
bit_times (suc zero) a h = one-mul (times_alpha a) ∙ ap times_alpha (sym (one-mul a))
bit_times (suc (suc x)) a h = absurd (omega arith)

bits_left : (n a b : ℕ) → times_bits n (times_alpha a) b ≡ times_alpha (times_bits n a b)
unfolding times_bits
bits_left zero a b = sym alpha_zero
bits_left (suc n) a b =
    ap₂ ◌⊕◌ (ap times_alpha (bits_left n a (b / 2))) (bit_times (b % 2) a (bit_below b))
    ∙ sym (alpha_sum (times_alpha (times_bits n a (b / 2))) (b % 2 * a))

pub bits_zero : (n b : ℕ) → times_bits n 0 b ≡ 0
unfolding times_bits
bits_zero zero b = refl
bits_zero (suc n) b = ap₂ ◌⊕◌ (ap times_alpha (bits_zero n (b / 2)) ∙ alpha_zero) (let e : b % 2 * 0 ≡ 0 = omega arith in e)

pub bits_sum : (n a b c : ℕ) → times_bits n a (b ⊕ c) ≡ times_bits n a b ⊕ times_bits n a c
unfolding times_bits
bits_sum zero a b c = refl
bits_sum (suc n) a b c =
    ap₂ ◌⊕◌
    (ap times_alpha (ap (times_bits n a) (half b c) ∙ bits_sum n a (b / 2) (c / 2)) ∙ alpha_sum (times_bits n a (b / 2)) (times_bits n a (c / 2)))
    (ap (λ (x : ℕ). x * a) (xor_mod b c 1) ∙ bit_scaled (b % 2) (c % 2) a (bit_below b) (bit_below c))
    ∙ swap (times_alpha (times_bits n a (b / 2))) (times_alpha (times_bits n a (c / 2))) (b % 2 * a) (c % 2 * a)

pub times_sum : (a b c : ℕ) → times a (b ⊕ c) ≡ times a b ⊕ times a c
times_sum a b c = bits_sum 9 a b c

bit_sum : (x a b : ℕ) → x < 2 → x * (a ⊕ b) ≡ (x * a) ⊕ (x * b)
bit_sum zero a b h = zero-mul (a ⊕ b) ∙ sym (ap₂ ◌⊕◌ (zero-mul a) (zero-mul b))
bit_sum (suc zero) a b h = one-mul (a ⊕ b) ∙ sym (ap₂ ◌⊕◌ (one-mul a) (one-mul b))
bit_sum (suc (suc x)) a b h = absurd (omega arith)

bits_sum_left : (n a b c : ℕ) → times_bits n (a ⊕ b) c ≡ times_bits n a c ⊕ times_bits n b c
unfolding times_bits
bits_sum_left zero a b c = refl
bits_sum_left (suc n) a b c =
    ap₂ ◌⊕◌
    (ap times_alpha (bits_sum_left n a b (c / 2)) ∙ alpha_sum (times_bits n a (c / 2)) (times_bits n b (c / 2)))
    (bit_sum (c % 2) a b (bit_below c))
    ∙ swap (times_alpha (times_bits n a (c / 2))) (times_alpha (times_bits n b (c / 2))) (c % 2 * a) (c % 2 * b)

pub times_sum_left : (a b c : ℕ) → times (a ⊕ b) c ≡ times a c ⊕ times b c
times_sum_left a b c = bits_sum_left 9 a b c

pub times_left : (k a b : ℕ) → times (alphas k a) b ≡ alphas k (times a b)
unfolding alphas
times_left zero a b = refl
times_left (suc k) a b = bits_left 9 (alphas k a) b ∙ ap times_alpha (times_left k a b)

ones : every_below 512 (λ x. eqb (times_bits 9 1 x) x) ≡ true
unfolding times_bits times_alpha
ones = refl

pub one_times : (x : ℕ) → x < 512 → times 1 x ≡ x
one_times x h = eqb-true (times 1 x) x (at_each 512 (λ y. eqb (times_bits 9 1 y) y) ones x h)

pub zero_times : (x : ℕ) → times 0 x ≡ 0
zero_times x = bits_zero 9 x

pub power_times : (k x : ℕ) → x < 512 → times (power k) x ≡ alphas k x
power_times k x h = times_left k 1 x ∙ ap (alphas k) (one_times x h)

pub power_below : (k : ℕ) → power k < 512
power_below k = alphas_below k 1 (omega arith)

pub times_power : (s k : ℕ) → s < 512 → times s (power k) ≡ alphas k s
times_power s k h =
    by_power (λ s. times s (power k) ≡ alphas k s) (zero_times (power k) ∙ sym (alphas_zero k))
    (λ j. power_times j (power k) (power_below k) ∙ alphas_swap j k 1) s h

pub times_zero : (a : ℕ) → times a 0 ≡ 0
times_zero a = times_sum a 0 0 ∙ xor_self (times a 0)

pub times_alphas : (a k x : ℕ) → a < 512 → x < 512 → times a (alphas k x) ≡ alphas k (times a x)
times_alphas a k x h l =
    by_power (λ a. times a (alphas k x) ≡ alphas k (times a x)) (zero_times (alphas k x) ∙ sym (ap (alphas k) (zero_times x) ∙ alphas_zero k))
    (λ j. power_times j (alphas k x) (alphas_below k x l) ∙ alphas_swap j k x ∙ ap (alphas k) (sym (power_times j x l))) a h

pub times_below : (a b : ℕ) → a < 512 → b < 512 → times a b < 512
times_below a b h l =
    by_power (λ a. times a b < 512) (rw (zero_times b) (omega arith)) (λ j. rw (power_times j b l) (alphas_below j b l)) a h

pub times_comm : (a b : ℕ) → a < 512 → b < 512 → times a b ≡ times b a
times_comm a b h l =
    by_power (λ b. times a b ≡ times b a) (times_zero a ∙ sym (zero_times a)) (λ k. times_power a k h ∙ sym (power_times k a h)) b l

pub times_assoc : (a b c : ℕ) → a < 512 → b < 512 → c < 512 → times (times a b) c ≡ times a (times b c)
times_assoc a b c h k l =
    by_power (λ a. times (times a b) c ≡ times a (times b c))
    (ap (λ (x : ℕ). times x c) (zero_times b) ∙ zero_times c ∙ sym (zero_times (times b c)))
    (λ j. ap (λ (x : ℕ). times x c) (power_times j b k) ∙ times_left j b c ∙ sym (power_times j (times b c) (times_below b c k l))) a h

pub no_divisors : (a b : ℕ) → a < 512 → b < 512 → (a ≡ 0 → ⊥) → times a b ≡ 0 → b ≡ 0
no_divisors a b h l =
    by_power (λ a. (a ≡ 0 → ⊥) → times a b ≡ 0 → b ≡ 0) (λ n e. absurd (n refl)) (λ k n e. alphas_none k b (sym (power_times k b l) ∙ e)) a h
