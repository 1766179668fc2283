-- A page sent that takes a device from Complete to Check-link resolves the two base pages, whatever Next Pages there were.
use Rattle.std.specs.Prelude.{Some}
use Prim.Native.Nat.{ℕ, ◌+◌}
use mathlib.Core.Path.{◌≡◌, refl, sym, ap, ◌∙◌}
use mathlib.Core.Bool.{Bool, true, false, cond, not, ◌&&◌, ◌||◌, false≢true}
use lib.Dec.{leb}
use Rattle.answers.specs.Answers.{Said}
use Rattle.page_word.specs.NextPages.{sets_next_page}
use Rattle.page_resolve.specs.Rates.{rate_order}
use Rattle.page_resolve.specs.Resolving.{resolution_of, said_of}
use Rattle.port_state.specs.declared.State.{State}
use Rattle.port_state.specs.declared.State.TheVariants.{Off, Break, Ability, Ack, Complete, CheckLink, Up}
use Rattle.port_state.specs.declared.Device.{Device}
use Rattle.port_state.specs.Memory.{Due, due, by_state}
use Rattle.port_state.specs.Changes.{with_state}
use Rattle.port_state.specs.Rounds.{own_in_round, held_in_round}
use Rattle.port_timing.specs.Sending.{next_or_null, decided, counted, sent_in, sent_due}
use Rattle.port_step.specs.declared.events.Event.TheVariants.{Sent}
use Rattle.port_step.specs.Steps.{step_over, step_due}
use Rattle.promises.specs.NextPageFacts.{is_complete, is_check_link}

-- What is due is what resolving two words brings.
pub record Resolves (own held : ℕ) (x : Due) : Type 0 where
  pub says : x.says ≡ said_of (resolution_of rate_order own held)
  pub outcome : x.device.link.outcome ≡ Some (resolution_of rate_order own held)

-- It is so if it leaves Check-link.
record SettlesIf (own held : ℕ) (x : Due) : Type 0 where
  there : x.device.state ≡ CheckLink → Resolves own held x

abbrev is_elsewhere : State → Bool
is_elsewhere s = by_state s true true true true true false true

module _ {own held : ℕ} where
  elsewhere : {x : Due} → is_elsewhere x.device.state ≡ true → SettlesIf own held x
  elsewhere other = record { there = λ e. absurd (false≢true (sym (ap is_elsewhere e) ∙ other)) }

  either : {x y : Due} (t : Bool) → SettlesIf own held x → SettlesIf own held y → SettlesIf own held (cond t x y)
  either true a b = a
  either false a b = b

  either_device : {says : Said} {x y : Device} (t : Bool) → SettlesIf own held (due says x) → SettlesIf own held (due says y)
      → SettlesIf own held (due says (cond t x y))
  either_device true a b = a
  either_device false a b = b

sent_settles : (s : State) (reading : ℕ) (d : Device) → is_complete s ≡ true
    → SettlesIf d.link.talk.own d.link.talk.held (sent_in s rate_order reading (with_state s d))
unfolding counted decided next_or_null
sent_settles Off reading d h = absurd (false≢true h)
sent_settles Break reading d h = absurd (false≢true h)
sent_settles Ability reading d h = absurd (false≢true h)
sent_settles Ack reading d h = absurd (false≢true h)
sent_settles Complete reading d h =
    either d.link.talk.out
    (either (leb 3 (d.link.talk.count + 1))
    (either (sets_next_page (own_in_round d.link) || sets_next_page (held_in_round d.link))
    (either_device d.link.next.loaded (elsewhere refl) (either_device (sets_next_page (own_in_round d.link)) (elsewhere refl) (elsewhere refl)))
    (record { there = λ _. record { says = refl; outcome = refl } }))
    (elsewhere refl))
    (elsewhere refl)
sent_settles CheckLink reading d h = absurd (false≢true h)
sent_settles Up reading d h = absurd (false≢true h)

pub settles : (reading : ℕ) (d : Device) → d.state ≡ Complete → (step_due (Sent reading) d).device.state ≡ CheckLink
    → Resolves d.link.talk.own d.link.talk.held (step_due (Sent reading) d)
unfolding step_over sent_due
settles reading d there goes = (sent_settles d.state reading d (ap is_complete there)).there goes

-- Just when that is.
record Goes (there : Bool) (x : Due) : Type 0 where
  told : is_check_link x.device.state ≡ there

goes_if : {a b : Bool} {x y : Due} (t : Bool) → Goes a x → Goes b y → Goes (cond t a b) (cond t x y)
goes_if true g h = g
goes_if false g h = h

goes_device : {a : Bool} {says : Said} {x y : Device} (t : Bool) → Goes a (due says x) → Goes a (due says y) → Goes a (due says (cond t x y))
goes_device true g h = g
goes_device false g h = h

sent_goes : (s : State) (reading : ℕ) (d : Device) → is_complete s ≡ true
    → Goes
    (cond d.link.talk.out
    (cond (leb 3 (d.link.talk.count + 1)) (cond (sets_next_page (own_in_round d.link) || sets_next_page (held_in_round d.link)) false true) false) false)
    (sent_in s rate_order reading (with_state s d))
unfolding counted decided next_or_null
sent_goes Off reading d h = absurd (false≢true h)
sent_goes Break reading d h = absurd (false≢true h)
sent_goes Ability reading d h = absurd (false≢true h)
sent_goes Ack reading d h = absurd (false≢true h)
sent_goes Complete reading d h =
    goes_if d.link.talk.out
    (goes_if (leb 3 (d.link.talk.count + 1))
    (goes_if (sets_next_page (own_in_round d.link) || sets_next_page (held_in_round d.link))
    (goes_device d.link.next.loaded (record { told = refl }) (goes_device (sets_next_page (own_in_round d.link)) (record { told = refl }) (record { told = refl })))
    (record { told = refl }))
    (record { told = refl }))
    (record { told = refl })
sent_goes CheckLink reading d h = absurd (false≢true h)
sent_goes Up reading d h = absurd (false≢true h)

as_tests : (out three more : Bool) → cond out (cond three (cond more false true) false) false ≡ (out && (three && not more))
as_tests true true true = refl
as_tests true true false = refl
as_tests true false more = refl
as_tests false three more = refl

pub settles_when : (reading : ℕ) (d : Device) → d.state ≡ Complete
    → is_check_link (step_due (Sent reading) d).device.state
    ≡ (d.link.talk.out && (leb 3 (d.link.talk.count + 1) && not (sets_next_page (own_in_round d.link) || sets_next_page (held_in_round d.link))))
unfolding step_over sent_due
settles_when reading d there =
    (sent_goes d.state reading d (ap is_complete there)).told
    ∙ as_tests d.link.talk.out (leb 3 (d.link.talk.count + 1)) (sets_next_page (own_in_round d.link) || sets_next_page (held_in_round d.link))
