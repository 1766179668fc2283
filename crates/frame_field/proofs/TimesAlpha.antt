-- Times alpha, as a register does it: doubled, and x^9 + x^4 + 1 taken away if there was an x^8. It is linear, and what it was before can be told.
use mathlib.Core.Path.{◌≡◌, refl, sym, ap, ap₂, ◌∙◌}
use Prim.Native.Nat.{ℕ, zero, suc, ◌+◌, ◌*◌, ◌/◌, ◌%◌, ◌<◌}
use native.Mathlib.Nat.{zero-mul, add-zero, add-suc, add_comm}
use native.Mathlib.Omega.{arith}
use lib.Bits.{differ, xor_self, xor_zero_l, xor_zero_r, xor_shr, xor_mod, xor_block}
use Rattle.frame_field.specs.Field.{◌⊕◌}
use Rattle.frame_field.proofs.ExclusiveOr.{bit_below, lowest, swap, equal_parts}

unfoldable pub times_alpha : ℕ → ℕ
times_alpha a = (a * 2) ⊕ (a / 256 % 2 * 529)

-- alpha^k times a.
unfoldable pub alphas : ℕ → ℕ → ℕ
alphas zero a = a
alphas (suc k) a = times_alpha (alphas k a)

abbrev pub power : ℕ → ℕ
power k = alphas k 1

-- A bit times a number, of the sum of two bits.
pub bit_scaled : (x y c : ℕ) → x < 2 → y < 2 → (x ⊕ y) * c ≡ (x * c) ⊕ (y * c)
bit_scaled zero y c h k = sym (ap (λ (z : ℕ). z ⊕ (y * c)) (zero-mul c) ∙ xor_zero_l (y * c))
bit_scaled (suc zero) zero c h k = sym (ap (λ (z : ℕ). (1 * c) ⊕ z) (zero-mul c) ∙ xor_zero_r (1 * c))
bit_scaled (suc zero) (suc zero) c h k = zero-mul c ∙ sym (xor_self (1 * c))
bit_scaled (suc zero) (suc (suc y)) c h k = absurd (omega arith)
bit_scaled (suc (suc x)) y c h k = absurd (omega arith)

doubled : (a b : ℕ) → (a ⊕ b) * 2 ≡ (a * 2) ⊕ (b * 2)
doubled a b = sym (ap₂ ◌⊕◌ (sym (add-zero (a * 2))) (sym (add-zero (b * 2))) ∙ xor_block 1 a b 0 0 (omega arith) (omega arith) ∙ add-zero ((a ⊕ b) * 2))

pub alpha_sum : (a b : ℕ) → times_alpha (a ⊕ b) ≡ times_alpha a ⊕ times_alpha b
unfolding times_alpha
alpha_sum a b =
    ap₂ ◌⊕◌ (doubled a b)
    (ap (λ (x : ℕ). x * 529) (ap (λ (x : ℕ). x % 2) (xor_shr a b 8) ∙ xor_mod (a / 256) (b / 256) 1)
    ∙ bit_scaled (a / 256 % 2) (b / 256 % 2) 529 (bit_below (a / 256)) (bit_below (b / 256)))
    ∙ swap (a * 2) (b * 2) (a / 256 % 2 * 529) (b / 256 % 2 * 529)

pub alpha_zero : times_alpha 0 ≡ 0
unfolding times_alpha
alpha_zero = refl

-- The lowest bit is the highest that was, so what was can be told.
alpha_lowest : (a : ℕ) → times_alpha a % 2 ≡ a / 256 % 2
unfolding times_alpha
alpha_lowest a =
    lowest (a * 2) (a / 256 % 2 * 529)
    ∙ ap (λ (x : ℕ). differ x (a / 256 % 2 * 529 % 2)) (let e : a * 2 % 2 ≡ 0 = omega arith in e)
    ∙ (let e : a / 256 % 2 * 529 % 2 ≡ a / 256 % 2 = omega arith in e)

alpha_none : (a : ℕ) → times_alpha a ≡ 0 → a ≡ 0
unfolding times_alpha
alpha_none a e =
    let top : a / 256 % 2 ≡ 0 = sym (alpha_lowest a) ∙ ap (λ (x : ℕ). x % 2) e in
    let d : a * 2 ≡ a / 256 % 2 * 529 = equal_parts (a * 2) (a / 256 % 2 * 529) e in omega arith

pub alpha_below : (a : ℕ) → a < 512 → times_alpha a < 512
unfolding times_alpha
alpha_below a h =
    let e : times_alpha a / 512 ≡ 0 =
    xor_shr (a * 2) (a / 256 % 2 * 529) 9
    ∙ ap₂ ◌⊕◌ (let l : a * 2 / 512 ≡ a / 256 % 2 = omega arith in l) (let r : a / 256 % 2 * 529 / 512 ≡ a / 256 % 2 = omega arith in r)
    ∙ xor_self (a / 256 % 2)
    in omega arith

pub alphas_sum : (k a b : ℕ) → alphas k (a ⊕ b) ≡ alphas k a ⊕ alphas k b
unfolding alphas
alphas_sum zero a b = refl
alphas_sum (suc k) a b = ap times_alpha (alphas_sum k a b) ∙ alpha_sum (alphas k a) (alphas k b)

pub alphas_zero : (k : ℕ) → alphas k 0 ≡ 0
unfolding alphas
alphas_zero zero = refl
alphas_zero (suc k) = ap times_alpha (alphas_zero k) ∙ alpha_zero

pub alphas_none : (k a : ℕ) → alphas k a ≡ 0 → a ≡ 0
unfolding alphas
alphas_none zero a e = e
alphas_none (suc k) a e = alphas_none k a (alpha_none (alphas k a) e)

pub alphas_below : (k a : ℕ) → a < 512 → alphas k a < 512
unfolding alphas
alphas_below zero a h = h
alphas_below (suc k) a h = alpha_below (alphas k a) (alphas_below k a h)

pub alphas_add : (j k a : ℕ) → alphas (j + k) a ≡ alphas k (alphas j a)
unfolding alphas
alphas_add j zero a = ap (λ (n : ℕ). alphas n a) (add-zero j)
alphas_add j (suc k) a = ap (λ (n : ℕ). alphas n a) (add-suc j k) ∙ ap times_alpha (alphas_add j k a)

pub alphas_swap : (j k a : ℕ) → alphas j (alphas k a) ≡ alphas k (alphas j a)
alphas_swap j k a = sym (alphas_add k j a) ∙ ap (λ (n : ℕ). alphas n a) (add_comm k j) ∙ alphas_add j k a

pub alphas_nought : (a : ℕ) → alphas 0 a ≡ a
unfolding alphas
alphas_nought a = refl

pub alphas_one : (a : ℕ) → alphas 1 a ≡ times_alpha a
unfolding alphas
alphas_one a = refl

pub alphas_shift : (k a : ℕ) → alphas k (times_alpha a) ≡ times_alpha (alphas k a)
alphas_shift k a = ap (alphas k) (sym (alphas_one a)) ∙ alphas_swap k 1 a ∙ alphas_one (alphas k a)

-- alpha^k times a, and equal for two a: the same a.
pub alphas_same : (k a b : ℕ) → alphas k a ≡ alphas k b → a ≡ b
alphas_same k a b e = equal_parts a b (alphas_none k (a ⊕ b) (alphas_sum k a b ∙ ap (λ (x : ℕ). x ⊕ alphas k b) e ∙ xor_self (alphas k b)))
