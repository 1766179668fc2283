-- A module that has just gone into Break is as good as new: it and a new one are twins on the same clock.
use Prim.Native.Nat.{ℕ, ◌+◌, ◌*◌, ◌/◌, ◌%◌, ◌^◌, ◌<◌}
use mathlib.Core.Path.{◌≡◌, sym, ap, ap₂, ◌∙◌, subst}
use mathlib.Core.List.{List}
use native.Mathlib.Nat.{div-eq_of_lt, lt_of_lt_of_le, mod-eq_of_lt, mod-lt, mod-mod, mod-one}
use native.Mathlib.Omega.{arith}
use lib.Pow.{mod-pow-add, pow_mono, pow_pos}
use Rattle.page_word.specs.Fields.{part, with_part}
use Rattle.page_word.specs.declared.thirds.Third.TheVariants.{Low, Middle, High}
use Rattle.page_word.specs.Thirds.{third_of, with_third}
use Rattle.port_state.specs.declared.Device.{Device}
use Rattle.port_state.specs.Memory.{fresh_device, into_break}
use Rattle.port_state.specs.Changes.{with_advertised}
use Rattle.port_registers.specs.Registers.{register_of, commanded, write_due}
use Rattle.port_step.specs.declared.events.Event.{Event}
use Rattle.port_step.specs.Steps.{step_over, after_all}
use Rattle.promises.specs.TwoPasts.{reading_of, Same, switched_on, AsIfNew}
use Rattle.promises.proofs.TwinRuns.{same_runs}
use Rattle.promises.proofs.Sound.{fresh_sound, all_sound}
use Rattle.promises.proofs.NoPageOutlives.{same_both, has_entered}

same_turned : {a b : Device} {events events' : List Event} → Same a events b events' → Same b events' a events
same_turned p =
    record { answers = sym p.answers; registers = λ n. sym (p.registers n); pages = sym p.pages }

-- Two devices that enter Break at one reading, the first with the advertisement of the second: on a clock that is shifted by 0 both are one.
pub same_reading : (r : ℕ) (d c : Device) (later : List Event) → Same (into_break r (with_advertised c.lasting.advertised d)) later (into_break r c) later
same_reading r d c later =
    same_both (same_runs 0 later c.lasting.flags (into_break r (with_advertised c.lasting.advertised d))) (same_turned (same_runs 0 later c.lasting.flags (into_break r c)))

-- A new device has just entered Break.
-- Three registers written one after another, from the lowest on, are the word again: after each the bits below its end are there.
rebuilt : (l a : ℕ) → with_part l 16 (part l 16 a) (a % 2 ^ l) ≡ a % 2 ^ (16 + l)
unfolding part with_part
rebuilt l a =
    ap₂ (λ (above below : ℕ). above * 2 ^ (l + 16) + below)
    (div-eq_of_lt (lt_of_lt_of_le (mod-lt a (pow_pos l)) (pow_mono (omega arith))))
    (ap₂ (λ (v w : ℕ). v * 2 ^ l + w) (mod-mod (a / 2 ^ l) (2 ^ 16)) (mod-mod a (2 ^ l)))
    ∙ zero_mul_add (2 ^ (l + 16)) _
    ∙ sym (mod-pow-add a 16 l)
  where
    zero_mul_add : (m n : ℕ) → 0 * m + n ≡ n
    zero_mul_add m n = omega arith

thirds_again : (a : ℕ) → a < 2 ^ 48
    → with_third High (third_of High a) (with_third Middle (third_of Middle a) (with_third Low (third_of Low a) 0)) ≡ a
thirds_again a h =
    ap (λ (w : ℕ). with_third High (third_of High a) (with_third Middle (third_of Middle a) (with_third Low (third_of Low a) w))) (sym (mod-one a))
    ∙ ap (λ (w : ℕ). with_third High (third_of High a) (with_third Middle (third_of Middle a) w)) (rebuilt 0 a)
    ∙ ap (λ (w : ℕ). with_third High (third_of High a) w) (rebuilt 16 a)
    ∙ rebuilt 32 a
    ∙ mod-eq_of_lt h

new_entered : (r a : ℕ) → a < 2 ^ 48 → after_all fresh_device (switched_on r a) ≡ into_break r (with_advertised a fresh_device)
unfolding after_all step_over write_due register_of commanded
new_entered r a h = ap (λ (word : ℕ). into_break r (with_advertised word fresh_device)) (thirds_again a h)

pub as_if_new : AsIfNew
as_if_new m later =
    subst (λ (x : Device). Same x later (after_all fresh_device (switched_on r x.lasting.advertised)) later) (sym (has_entered m))
    (subst (λ (y : Device). Same (into_break r d) later y later) (sym (new_entered r d.lasting.advertised (all_sound m.past fresh_device fresh_sound).advertised_word))
    (same_turned (same_reading r fresh_device d later)))
  where
    r : ℕ
    r = reading_of m.entry

    d : Device
    d = after_all fresh_device m.past
