-- Sums of symbols: exclusive or in any order, over halves and lowest bits, and what follows for polynomials over symbols.
use mathlib.Core.Path.{◌≡◌, refl, sym, ap, ap₂, ◌∙◌}
use Prim.Native.Nat.{ℕ, zero, suc, ◌+◌, ◌*◌, ◌/◌, ◌%◌, ◌<◌}
use native.Mathlib.Nat.{mod-lt, zero-lt-suc}
use native.Mathlib.Omega.{arith}
use lib.Arith.{bin_ind}
use lib.Bits.{differ, xor_step, xor_comm, xor_self, xor_zero_l, xor_zero_r, xor_shr}
use Rattle.polynomials.proofs.Sums.{Sums}
use Rattle.frame_field.specs.Field.{◌⊕◌, symbols}

differ_below : (x y : ℕ) → x < 2 → y < 2 → differ x y < 2
differ_below zero y h k = k
differ_below (suc zero) zero h k = h
differ_below (suc zero) (suc zero) h k = omega arith
differ_below (suc zero) (suc (suc y)) h k = absurd (omega arith)
differ_below (suc (suc x)) y h k = absurd (omega arith)

differ_assoc : (x y z : ℕ) → x < 2 → y < 2 → z < 2 → differ (differ x y) z ≡ differ x (differ y z)
differ_assoc zero y z h k l = refl
differ_assoc (suc zero) zero z h k l = refl
differ_assoc (suc zero) (suc zero) zero h k l = refl
differ_assoc (suc zero) (suc zero) (suc zero) h k l = refl
differ_assoc (suc zero) (suc zero) (suc (suc z)) h k l = absurd (omega arith)
differ_assoc (suc zero) (suc (suc y)) z h k l = absurd (omega arith)
differ_assoc (suc (suc x)) y z h k l = absurd (omega arith)

-- The lowest bit of a number.
pub bit_below : (a : ℕ) → a % 2 < 2
bit_below a = mod-lt a (zero-lt-suc 1)

pub half : (a b : ℕ) → (a ⊕ b) / 2 ≡ (a / 2) ⊕ (b / 2)
half a b = xor_shr a b 1

pub lowest : (a b : ℕ) → (a ⊕ b) % 2 ≡ differ (a % 2) (b % 2)
lowest a b = ap (λ (x : ℕ). x % 2) (xor_step a b) ∙ (let h = differ_below (a % 2) (b % 2) (bit_below a) (bit_below b) in omega arith)

pub assoc : (a b c : ℕ) → (a ⊕ b) ⊕ c ≡ a ⊕ (b ⊕ c)
assoc a =
    bin_ind (λ (n : ℕ). (b c : ℕ) → (n ⊕ b) ⊕ c ≡ n ⊕ (b ⊕ c)) (λ b c. refl)
    (λ n ih b c.
    xor_step (n ⊕ b) c
    ∙ ap₂ (λ (x y : ℕ). x * 2 + y)
    (ap (λ (x : ℕ). x ⊕ (c / 2)) (half n b) ∙ ih (b / 2) (c / 2) ∙ ap (λ (x : ℕ). (n / 2) ⊕ x) (sym (half b c)))
    (ap (λ (x : ℕ). differ x (c % 2)) (lowest n b)
    ∙ differ_assoc (n % 2) (b % 2) (c % 2) (bit_below n) (bit_below b) (bit_below c)
    ∙ ap (differ (n % 2)) (sym (lowest b c)))
    ∙ sym (xor_step n (b ⊕ c))) a

-- Four sums in another order.
pub swap : (a b c d : ℕ) → (a ⊕ b) ⊕ (c ⊕ d) ≡ (a ⊕ c) ⊕ (b ⊕ d)
swap a b c d =
    assoc a b (c ⊕ d)
    ∙ ap (λ (x : ℕ). a ⊕ x) (sym (assoc b c d) ∙ ap (λ (x : ℕ). x ⊕ d) (xor_comm b c) ∙ assoc c b d)
    ∙ sym (assoc a c (b ⊕ d))

pub twice : (a b : ℕ) → a ⊕ (a ⊕ b) ≡ b
twice a b = sym (assoc a a b) ∙ ap (λ (x : ℕ). x ⊕ b) (xor_self a) ∙ xor_zero_l b

-- A sum that is zero has equal parts.
pub equal_parts : (a b : ℕ) → a ⊕ b ≡ 0 → a ≡ b
equal_parts a b e = sym (xor_zero_r a) ∙ ap (λ (x : ℕ). a ⊕ x) (sym e) ∙ twice a b

pub symbol_sums : Sums symbols
symbol_sums = record { comm = xor_comm; assoc = assoc; nothing = xor_zero_l; self = xor_self }
