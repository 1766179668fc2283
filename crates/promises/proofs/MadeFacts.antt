-- Facts of records that calls have made, from what every event keeps.
use Rattle.std.specs.Prelude.{Some, None}
use Prim.Native.Nat.{ℕ, ◌≤◌}
use mathlib.Core.Path.{◌≡◌, refl, sym, ap, ap₂, subst}
use mathlib.Core.Bool.{true, false, ◌||◌, false≢true}
use mathlib.Core.List.{List, [], ◌∷◌}
use Rattle.page_word.specs.Word.{is_wide, among}
use Rattle.page_resolve.proofs.SettledAnswers.{resolves}
use Rattle.port_state.specs.declared.State.{State}
use Rattle.port_state.specs.declared.State.TheVariants.{Off, Break, Ability, Ack, Complete, CheckLink, Up}
use Rattle.port_state.specs.declared.rounds.Round.{Round}
use Rattle.port_state.specs.declared.rounds.Round.TheVariants.{Base, First, Later}
use Rattle.port_state.specs.declared.Talk.{Talk}
use Rattle.port_state.specs.declared.Device.{Device}
use Rattle.port_state.specs.Memory.{fresh_device, is_talking, Outcome}
use Rattle.port_state.specs.Rounds.{is_base, is_first}
use Rattle.port_timing.specs.Sending.{has_rate}
use Rattle.port_step.specs.declared.events.Event.{Event}
use Rattle.port_step.specs.declared.events.Event.TheVariants.{Sent}
use Rattle.port_step.specs.Steps.{step_due}
use Rattle.promises.specs.AtTheDevice.{after}
use Rattle.promises.specs.MadeByCalls.{is_ack_or_complete, has_outcome, holds_page, is_later, is_resolved, stands_right, Made, MadeByCalls}
use Rattle.promises.proofs.Sound.{Own, Pair, NoneHeard, Talks, Comes, Sound, narrow, held_before, own_before, fresh_sound, step_brings, all_sound}
use Rattle.promises.proofs.ReaderFollows.{all_stand}
use Rattle.promises.proofs.StateStays.{turned}
use Rattle.promises.proofs.Settling.{settles}

-- The device after events.
sound : (events : List Event) → Sound (after events)
sound events = all_sound events fresh_device fresh_sound

-- By state.
module _ (r : Round) (t : Talk) where
  own : (s : State) → Talks s r t → is_talking s ≡ true → Own t.own
  own Off talks h = absurd (false≢true h)
  own Break talks h = absurd (false≢true h)
  own Ability talks h = own_before r t.own t.held talks
  own Ack talks h = talks.0.own_page_law
  own Complete talks h = talks.0.own_page_law
  own CheckLink talks h = absurd (false≢true h)
  own Up talks h = absurd (false≢true h)

  pair : (s : State) → Talks s r t → holds_page s r ≡ true → Pair t.own t.held
  pair Off talks h = absurd (false≢true h)
  pair Break talks h = absurd (false≢true h)
  pair Ability talks h = held_before r t.own t.held (turned (is_base r) h) talks
  pair Ack talks h = talks.0
  pair Complete talks h = talks.0
  pair CheckLink talks h = absurd (false≢true h)
  pair Up talks h = absurd (false≢true h)

  never_first : (s : State) → Talks s r t → is_ack_or_complete s ≡ true → is_first r ≡ false
  never_first Off talks h = absurd (false≢true h)
  never_first Break talks h = absurd (false≢true h)
  never_first Ability talks h = absurd (false≢true h)
  never_first Ack talks h = talks.1
  never_first Complete talks h = talks.1
  never_first CheckLink talks h = absurd (false≢true h)
  never_first Up talks h = absurd (false≢true h)

  count : (s : State) → s ≡ Complete → Talks s r t → t.count ≤ 3
  count s e talks = let c : Pair t.own t.held × (is_first r ≡ false) × (t.count ≤ 3) = subst (λ (x : State). Talks x r t) e talks in c.2

  none_out : (s : State) → Talks s r t → is_talking s ≡ false → t.out ≡ false
  none_out Off talks h = talks
  none_out Break talks h = talks.0
  none_out Ability talks h = absurd (false≢true (sym h))
  none_out Ack talks h = absurd (false≢true (sym h))
  none_out Complete talks h = absurd (false≢true (sym h))
  none_out CheckLink talks h = talks
  none_out Up talks h = talks

with_rate : (o : Outcome) → has_rate o ≡ true → is_resolved o ≡ true
with_rate None h = h
with_rate (Some resolution) h = refl

outcome : (s : State) (o : Outcome) → Comes s o → is_resolved o ≡ has_outcome s
outcome Off o comes = ap is_resolved comes
outcome Break o comes = ap is_resolved comes
outcome Ability o comes = ap is_resolved comes
outcome Ack o comes = ap is_resolved comes
outcome Complete o comes = ap is_resolved comes
outcome CheckLink o comes = comes
outcome Up o comes = with_rate o comes

none_heard : (r : Round) (heard : ℕ) → NoneHeard r heard → is_later r ≡ false → heard ≡ 0
none_heard Base heard h e = h
none_heard First heard h e = h
none_heard Later heard h e = absurd (false≢true (sym e))

made : (d : Device) → Sound d → stands_right d.link.reader ≡ true → Made d
made d s stands =
    record {
      own = λ h.
          let page = own d.link.next.round d.link.talk d.state s.talks h in
          record { is_word = narrow d.link.talk.own page.word; selector = page.selector };
      held = λ h.
          let both = pair d.link.next.round d.link.talk d.state s.talks h in
          record { is_word = narrow d.link.talk.held both.word; selector = both.selector };
      no_tie = λ h. (pair d.link.next.round d.link.talk d.state s.talks h).no_tie;
      own_next = narrow d.link.next.own s.next_own;
      transmit = narrow d.link.next.transmit s.transmit_word;
      advertised = narrow d.lasting.advertised s.advertised_word;
      none_heard = none_heard d.link.next.round d.link.next.heard s.none_heard;
      round = never_first d.link.next.round d.link.talk d.state s.talks;
      count = λ e. count d.link.next.round d.link.talk d.state e s.talks;
      none_out = none_out d.link.next.round d.link.talk d.state s.talks;
      outcome = outcome d.state d.link.outcome s.comes;
      up = λ e. subst (λ (x : State). Comes x d.link.outcome) e s.comes;
      reader = stands;
    }

all_made : (events : List Event) → Made (after events)
all_made events = made (after events) (sound events) (all_stand fresh_device events refl)

-- A page sent that takes a device from Complete to Check-link.
settling : (reading : ℕ) (d : Device) → Made d → d.state ≡ Complete → (step_due (Sent reading) d).device.state ≡ CheckLink
    → among (step_due (Sent reading) d).says.kind (8 ∷ 9 ∷ 0x82 ∷ []) ≡ true
settling reading d m there goes =
    let talks : is_talking d.state ≡ true = ap is_talking there in
    let holds : holds_page d.state d.link.next.round ≡ true = ap (λ (s : State). holds_page s d.link.next.round) there in
    let r = resolves d.link.talk.own d.link.talk.held (m.own talks).selector (m.held holds).selector (m.no_tie holds) in
    let narrow_both : (is_wide d.link.talk.own || is_wide d.link.talk.held) ≡ false = ap₂ ◌||◌ (m.own talks).is_word (m.held holds).is_word in
    rw ((settles reading d there goes).says, r.2, narrow_both) r.1.kind

pub made_by_calls : MadeByCalls
made_by_calls =
    record {
      made = all_made;
      settling = λ events reading. settling reading (after events) (all_made events);
      kinds = λ events e. (step_brings e (after events) (sound events)).kind;
      values = λ events e. (step_brings e (after events) (sound events)).value;
    }
