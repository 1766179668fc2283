-- It is a field: the laws gathered; the powers of alpha with exponents below 511 differ, and each symbol but zero is one of them and has an inverse.
use mathlib.Core.Path.{◌≡◌, refl, sym, ap, ap₂, ◌∙◌}
use mathlib.Core.Bool.{Bool, true, false}
use Prim.Native.Nat.{ℕ, zero, suc, ◌+◌, ◌-◌, ◌*◌, ◌/◌, ◌%◌, ◌<◌, ◌^◌}
use native.Mathlib.Nat.{mod-lt, zero-lt-suc}
use native.Mathlib.Omega.{arith}
use lib.Dec.{eqb, ltb}
use lib.Bits.{xor_comm, xor_self, xor_zero_r, xor_lt}
use borrow.Author.Tests.{eqb-true, ltb-true, ltb-false}
use Rattle.page_word.proofs.ComputedTest.{every_below, at_each}
use Rattle.frame_field.specs.Field.{◌⊕◌, ◌⊗◌, alpha, raised}
use Rattle.frame_field.specs.FieldLaws.{PowerOfAlpha, FieldLaws}
use Rattle.frame_field.proofs.ExclusiveOr.{assoc}
use Rattle.frame_field.proofs.TimesAlpha.{times_alpha, alphas, power, alphas_nought, alphas_add, alphas_none}
use Rattle.frame_field.proofs.PowersOfAlpha.{is_power, moved, by_power}
use Rattle.frame_field.proofs.TimesBits.{power_below}
use Rattle.frame_field.proofs.Products.{product_below_law, product_comm, product_assoc, product_one, over_sum, no_zero_product, product_power, raised_alpha}

power_511 : power 511 ≡ 1
unfolding alphas times_alpha
power_511 = refl

round : (k : ℕ) → power (511 * k) ≡ 1
round zero = alphas_nought 1
round (suc k) =
    ap (λ (n : ℕ). alphas n 1) (let e : 511 * suc k ≡ 511 + 511 * k = omega arith in e)
    ∙ alphas_add 511 (511 * k) 1 ∙ ap (alphas (511 * k)) power_511 ∙ round k

-- A later power within 510 steps is another one.
later : (j k : ℕ) → j < k → k < 511 + j → power j ≡ power k → ⊥
later j k h l e =
    let z = moved (k - j) (power j) (omega arith) (omega arith) (power_below j)
    (sym (alphas_add j (k - j) 1) ∙ ap (λ (n : ℕ). alphas n 1) (let d : j + (k - j) ≡ k = omega arith in d) ∙ sym e) in
    let o = alphas_none j 1 z in omega arith

distinct : (j k : ℕ) → j < 511 → k < 511 → power j ≡ power k → j ≡ k
distinct j k h l e = by (ltb j k) refl (ltb k j) refl
  where
    by : (t : Bool) → ltb j k ≡ t → (u : Bool) → ltb k j ≡ u → j ≡ k
    by true p u q = absurd (later j k (ltb-true j k p) (omega arith) e)
    by false p true q = absurd (later k j (ltb-true k j q) (omega arith) (sym e))
    by false p false q = let a = ltb-false j k p in let b = ltb-false k j q in omega arith

-- Any power is one with an exponent below 511.
reduced : (k : ℕ) → power k ≡ power (k % 511)
reduced k =
    ap (λ (n : ℕ). alphas n 1) (let e : k ≡ 511 * (k / 511) + k % 511 = omega arith in e)
    ∙ alphas_add (511 * (k / 511)) (k % 511) 1 ∙ ap (alphas (k % 511)) (round (k / 511))

all_powers : (x : ℕ) → x < 512 → (x ≡ 0 → ⊥) → PowerOfAlpha x
all_powers x h n =
    let p = is_power x h n in
    record { exponent = p.exponent % 511; below = mod-lt p.exponent (zero-lt-suc 510); is = raised_alpha (p.exponent % 511) ∙ sym (reduced p.exponent) ∙ p.is }

inverse : (x : ℕ) → x < 512 → (x ≡ 0 → ⊥) → (b : ℕ) × ((b < 512) × (x ⊗ b ≡ 1))
inverse x h =
    by_power (λ x. (x ≡ 0 → ⊥) → (b : ℕ) × ((b < 512) × (x ⊗ b ≡ 1))) (λ n. absurd (n refl))
    (λ k n. (
      power (510 * k),
      (
        power_below (510 * k),
        product_power (power k) (510 * k) (power_below k) ∙ sym (alphas_add k (510 * k) 1)
            ∙ ap (λ (m : ℕ). alphas m 1) (let e : k + 510 * k ≡ 511 * k = omega arith in e) ∙ round k,
      ),
    )) x h

root : (raised alpha 9 ⊕ raised alpha 4) ⊕ 1 ≡ 0
unfolding alphas times_alpha
root = ap₂ (λ (x y : ℕ). (x ⊕ y) ⊕ 1) (raised_alpha 9) (raised_alpha 4)

nine_bits : every_below 9 (λ i. eqb (power i) (2 ^ i)) ≡ true
unfolding alphas times_alpha
nine_bits = refl

bits : (i : ℕ) → i < 9 → raised alpha i ≡ 2 ^ i
bits i h = raised_alpha i ∙ eqb-true (power i) (2 ^ i) (at_each 9 (λ i. eqb (power i) (2 ^ i)) nine_bits i h)

pub field_laws : FieldLaws
field_laws =
    record {
      sum_below = xor_lt 9;
      product_below_law = product_below_law;
      sum_comm = xor_comm;
      sum_assoc = assoc;
      sum_zero = xor_zero_r;
      sum_self = xor_self;
      product_comm = product_comm;
      product_assoc = product_assoc;
      product_one = product_one;
      over_sum = over_sum;
      no_zero_product = no_zero_product;
      inverse = inverse;
      root = root;
      bits = bits;
      all_powers = all_powers;
      differ = λ j k h l e. distinct j k h l (sym (raised_alpha j) ∙ e ∙ raised_alpha k);
      never_zero = λ k e. let z = alphas_none k 1 (sym (raised_alpha k) ∙ e) in omega arith;
    }
