-- The facts about Next Pages, from what each event does to the pages of a link.
use Prim.Native.Nat.{ℕ}
use mathlib.Core.Path.{◌≡◌, refl, sym, ap, ap₂, ◌∙◌}
use mathlib.Core.Bool.{Bool, true, false, cond, ◌&&◌, ◌||◌, false≢true, true≢false}
use mathlib.Core.List.{List}
use native.Mathlib.Omega.{arith}
use Rattle.answers.specs.Answers.{Said, nothing, page_ordered}
use Rattle.page_word.specs.Word.{among}
use Rattle.page_word.specs.Fields.{with_field}
use Rattle.page_word.specs.declared.fields.Field.TheVariants as field
use Rattle.page_word.specs.NextPages.{toggle_of, same_toggle, inverse_toggle}
use Rattle.page_word.proofs.FieldLaws.{kept_below, kept_above}
use Rattle.page_resolve.specs.Rates.{rate_order}
use Rattle.port_state.specs.declared.State.{State}
use Rattle.port_state.specs.declared.State.TheVariants.{Off, Break, Ability, Ack, Complete, CheckLink, Up}
use Rattle.port_state.specs.declared.rounds.Round.{Round}
use Rattle.port_state.specs.declared.rounds.Round.TheVariants.{Base, First, Later}
use Rattle.port_state.specs.declared.Link.{Link}
use Rattle.port_state.specs.declared.Device.{Device}
use Rattle.port_state.specs.Memory.{Due, due, is_talking, fresh_device}
use Rattle.port_state.specs.Changes.{with_state}
use Rattle.port_state.specs.Rounds.{by_round, is_base, own_in_round, held_in_round}
use Rattle.port_timing.specs.declared.profile.Profile.{Profile}
use Rattle.port_timing.specs.Ticks.{low_speed, run_out, inhibit_of, echoing_page, acknowledging, may_order, orders, is_lost, talks, tick_in, tick_due}
use Rattle.port_step.specs.declared.events.Event.{Event}
use Rattle.port_step.specs.declared.events.Event.TheVariants.{Edge, Tick, Sent, Report, Read, Write, Unnamed}
use Rattle.port_step.specs.Steps.{step_over, step_due}
use Rattle.promises.specs.AtTheDevice.{after}
use Rattle.promises.specs.MadeByCalls.{kinds_for}
use Rattle.promises.specs.NextPageFacts.{is_ability, is_ack, is_complete, OwnPages, HeldPages, BasePages, NextPageFacts}
use Rattle.promises.proofs.Sound.{fresh_sound, step_brings, all_sound}
use Rattle.promises.proofs.Settling.{settles, settles_when}
use Rattle.promises.proofs.PageTurns.{Turn, away, kept, held_base, held_next, went_on, step_turns}
use Rattle.promises.proofs.KnownPages.{next_known, partner_known}

-- A test that is true cannot be false.
both_ways : {A : Type 0} {t : Bool} → t ≡ true → t ≡ false → A
both_ways holds fails = absurd (true≢false (sym holds ∙ fails))

or_left : (t u : Bool) → (t || u) ≡ false → t ≡ false
or_left true u h = h
or_left false u h = refl

or_right : (t u : Bool) → (t || u) ≡ false → u ≡ false
or_right true u h = absurd (false≢true (sym h))
or_right false u h = h

-- From Complete to Ability, and from Ability to Ack, the device talks before and after.
going_talks : (s u : State) → (is_complete s && is_ability u) ≡ true → (is_talking s && is_talking u) ≡ true
going_talks Off u h = absurd (false≢true h)
going_talks Break u h = absurd (false≢true h)
going_talks Ability u h = absurd (false≢true h)
going_talks Ack u h = absurd (false≢true h)
going_talks Complete Ability h = refl
going_talks Complete Off h = h
going_talks Complete Break h = h
going_talks Complete Ack h = refl
going_talks Complete Complete h = refl
going_talks Complete CheckLink h = h
going_talks Complete Up h = h
going_talks CheckLink u h = absurd (false≢true h)
going_talks Up u h = absurd (false≢true h)

holding_talks : (s u : State) → (is_ability s && is_ack u) ≡ true → (is_talking s && is_talking u) ≡ true
holding_talks Off u h = absurd (false≢true h)
holding_talks Break u h = absurd (false≢true h)
holding_talks Ability Ack h = refl
holding_talks Ability Off h = h
holding_talks Ability Break h = h
holding_talks Ability Ability h = refl
holding_talks Ability Complete h = refl
holding_talks Ability CheckLink h = h
holding_talks Ability Up h = h
holding_talks Ack u h = absurd (false≢true h)
holding_talks Complete u h = absurd (false≢true h)
holding_talks CheckLink u h = absurd (false≢true h)
holding_talks Up u h = absurd (false≢true h)

module _ (s u : State) (l m : Link) where
  own_turns : Turn s u l m → (is_complete s && is_ability u) ≡ true → toggle_of (own_in_round m) ≡ inverse_toggle (own_in_round l)
  own_turns (away a) h = both_ways (going_talks s u h) a
  own_turns (kept still own held base) h = both_ways h (or_left (is_complete s && is_ability u) (is_ability s && is_ack u) still)
  own_turns (held_base not holds base own base-own) h = both_ways h not
  own_turns (held_next not holds other own base) h = both_ways h not
  own_turns (went_on goes not toggle held base) h = toggle

  own_stays : Turn s u l m → (is_talking s && is_talking u) ≡ true → (is_complete s && is_ability u) ≡ false → own_in_round m ≡ own_in_round l
  own_stays (away a) h still = both_ways h a
  own_stays (kept same own held base) h still = own
  own_stays (held_base not holds base own base-own) h still = own
  own_stays (held_next not holds other own base) h still = own
  own_stays (went_on goes not toggle held base) h still = both_ways goes still

  held_turns : Turn s u l m → is_base l.next.round ≡ false → (is_ability s && is_ack u) ≡ true → same_toggle (held_in_round m) (held_in_round l) ≡ false
  held_turns (away a) next h = both_ways (holding_talks s u h) a
  held_turns (kept still own held base) next h = both_ways h (or_right (is_complete s && is_ability u) (is_ability s && is_ack u) still)
  held_turns (held_base not holds base own base-own) next h = both_ways base next
  held_turns (held_next not holds other own base) next h = other
  held_turns (went_on goes not toggle held base) next h = both_ways h not

  held_stays : Turn s u l m → (is_talking s && is_talking u) ≡ true → (is_ability s && is_ack u) ≡ false → held_in_round m ≡ held_in_round l
  held_stays (away a) h still = both_ways h a
  held_stays (kept same own held base) h still = held
  held_stays (held_base not holds base own base-own) h still = both_ways holds still
  held_stays (held_next not holds other own base) h still = both_ways holds still
  held_stays (went_on goes not toggle held base) h still = held

  base_own_stays : Turn s u l m → (is_talking s && is_talking u) ≡ true → m.talk.own ≡ l.talk.own
  base_own_stays (away a) h = both_ways h a
  base_own_stays (kept still own held base) h = base.own
  base_own_stays (held_base not holds base own base-own) h = base-own
  base_own_stays (held_next not holds other own base) h = base.own
  base_own_stays (went_on goes not toggle held base) h = base.own

  base_held_stays : Turn s u l m → (is_talking s && is_talking u) ≡ true → (is_base l.next.round && (is_ability s && is_ack u)) ≡ false → m.talk.held ≡ l.talk.held
  base_held_stays (away a) h not_taken = both_ways h a
  base_held_stays (kept still own held base) h not_taken = base.held
  base_held_stays (held_base not holds base own base-own) h not_taken = both_ways (ap₂ ◌&&◌ base holds) not_taken
  base_held_stays (held_next not holds other own base) h not_taken = base.held
  base_held_stays (went_on goes not toggle held base) h not_taken = base.held

-- A page that is ordered: the own page, with Ack, or with Ack and E, which leave D11.
acked_toggle : (word : ℕ) → toggle_of (with_field field.Ack 1 word) ≡ toggle_of word
acked_toggle word = kept_below 14 1 1 word 11 1 (omega arith)

echoing_toggle : (own held : ℕ) → toggle_of (echoing_page own held) ≡ toggle_of own
unfolding echoing_page
echoing_toggle own held = acked_toggle _ ∙ kept_above 5 5 _ own 11 1 (omega arith)

acknowledging_toggle : (l : Link) → toggle_of (acknowledging l) ≡ toggle_of (own_in_round l)
unfolding acknowledging
acknowledging_toggle l = by l.next.round
  where
    by : (r : Round)
        → toggle_of (cond (is_base r) (echoing_page l.talk.own l.talk.held) (with_field field.Ack 1 (by_round r l.talk.own l.next.own l.next.own)))
        ≡ toggle_of (by_round r l.talk.own l.next.own l.next.own)
    by Base = echoing_toggle l.talk.own l.talk.held
    by First = acked_toggle l.next.own
    by Later = acked_toggle l.next.own

-- What is due, if it orders a page, orders one with this toggle.
record Orders (toggle : ℕ) (x : Due) : Type 0 where
  ordered : (word : ℕ) → x.says ≡ page_ordered word → toggle_of word ≡ toggle

silent : {toggle : ℕ} {d : Device} → Orders toggle (due nothing d)
silent = record { ordered = λ word e. absurd (let z : ◌≡◌ {A = ℕ} 0 1 = zero_one (ap (λ (s : Said). s.kind) e) in omega arith) }
  where
    zero_one : ◌≡◌ {A = ℕ} 0 0x81 → ◌≡◌ {A = ℕ} 0 1
    zero_one e = omega arith

either : {toggle : ℕ} {x y : Due} (t : Bool) → Orders toggle x → Orders toggle y → Orders toggle (cond t x y)
either true a b = a
either false a b = b

either_device : {toggle : ℕ} {x y : Device} (t : Bool) → Orders toggle (due nothing x) → Orders toggle (due nothing y) → Orders toggle (due nothing (cond t x y))
either_device true a b = a
either_device false a b = b

talk_orders : (p : Profile) (reading word toggle : ℕ) (d : Device) → toggle_of word ≡ toggle → Orders toggle (talks p reading word d)
unfolding talks orders
talk_orders p reading word toggle d same =
    either (is_lost p reading d.link) silent
    (either (may_order p reading d.link) (record { ordered = λ other e. ap toggle_of (sym (ap (λ (s : Said). s.value) e)) ∙ same }) silent)

tick_in_law : (s : State) (p : Profile) (reading draw : ℕ) (d : Device) → Orders (toggle_of (own_in_round d.link)) (tick_in s p reading draw (with_state s d))
tick_in_law Off p reading draw d = silent
tick_in_law Break p reading draw d = either_device (run_out p.breaking d.link.talk.timer reading) silent silent
tick_in_law Ability p reading draw d = talk_orders p reading (own_in_round d.link) _ (with_state Ability d) refl
tick_in_law Ack p reading draw d = talk_orders p reading (acknowledging d.link) _ (with_state Ack d) (acknowledging_toggle d.link)
tick_in_law Complete p reading draw d = talk_orders p reading (acknowledging d.link) _ (with_state Complete d) (acknowledging_toggle d.link)
tick_in_law CheckLink p reading draw d = either_device (run_out (inhibit_of d.link.outcome) d.link.talk.timer reading) silent silent
tick_in_law Up p reading draw d = silent

tick_orders : (reading draw : ℕ) (d : Device) → Orders (toggle_of (own_in_round d.link)) (step_due (Tick reading draw) d)
unfolding step_over tick_due
tick_orders reading draw d = tick_in_law d.state low_speed reading draw d

-- No other event orders a page.
not_ordering : (past : List Event) (e : Event) (word : ℕ) {A : Type 0} → among 0x81 (kinds_for e) ≡ false → (step_due e (after past)).says ≡ page_ordered word → A
not_ordering past e word none says =
    absurd
    (false≢true
    (sym none ∙ ap (λ (s : Said). among s.kind (kinds_for e)) (sym says) ∙ (step_brings e (after past) (all_sound past fresh_device fresh_sound)).kind))

ordered_toggle : (past : List Event) (e : Event) (word : ℕ) → (step_due e (after past)).says ≡ page_ordered word → toggle_of word ≡ toggle_of (own_in_round (after past).link)
ordered_toggle past (Edge reading) word says = not_ordering past (Edge reading) word refl says
ordered_toggle past (Tick reading draw) word says = (tick_orders reading draw (after past)).ordered word says
ordered_toggle past (Sent reading) word says = not_ordering past (Sent reading) word refl says
ordered_toggle past (Report reading up) word says = not_ordering past (Report reading up) word refl says
ordered_toggle past (Read reading register) word says = not_ordering past (Read reading register) word refl says
ordered_toggle past (Write reading register value) word says = not_ordering past (Write reading register value) word refl says
ordered_toggle past Unnamed word says = not_ordering past Unnamed word refl says

turn_of : (d : Device) (e : Event) → Turn d.state (step_due e d).device.state d.link (step_due e d).device.link
turn_of d e = (step_turns low_speed rate_order e d).turn

own_pages : OwnPages
own_pages =
    record {
      turns = λ d e. own_turns d.state (step_due e d).device.state d.link (step_due e d).device.link (turn_of d e);
      stays = λ d e. own_stays d.state (step_due e d).device.state d.link (step_due e d).device.link (turn_of d e);
      ordered = ordered_toggle;
    }

held_pages : HeldPages
held_pages =
    record {
      turns = λ d e. held_turns d.state (step_due e d).device.state d.link (step_due e d).device.link (turn_of d e);
      stays = λ d e. held_stays d.state (step_due e d).device.state d.link (step_due e d).device.link (turn_of d e);
    }

base_pages : BasePages
base_pages =
    record {
      when = λ d reading. settles_when reading d;
      says = λ d reading there goes. (settles reading d there goes).says;
      keeps = λ d reading there goes. (settles reading d there goes).outcome;
      own_stays = λ d e. base_own_stays d.state (step_due e d).device.state d.link (step_due e d).device.link (turn_of d e);
      held_stays = λ d e. base_held_stays d.state (step_due e d).device.state d.link (step_due e d).device.link (turn_of d e);
    }

pub next_page_facts : NextPageFacts
next_page_facts =
    record { own = own_pages; held = held_pages; known = record { next = next_known; partner = partner_known }; base = base_pages }
