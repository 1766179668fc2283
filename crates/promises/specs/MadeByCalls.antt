-- What is so of every device that calls have made: the fresh one (`Device::fresh`), and what any events (`step`, `run`) have made of it. (The functions that change one
-- part of a device are public too, for other crates, and can make any record; some that no events make are in `NotMade`.)
use Rattle.std.specs.Prelude.{ℕ, ◌^◌, ◌<◌, ◌≤◌, ◌≡◌, Bool, true, false, not, ◌&&◌, ◌||◌, List, [], ◌∷◌, Some, None}
use Rattle.answers.specs.Choices.{◌=?◌}
use Rattle.page_word.specs.Word.{is_wide, among}
use Rattle.page_word.specs.Fields.{has_other_selector, is_tie}
use Rattle.line_mode.specs.Modes.{lsm_mode}
use Rattle.line_page.specs.Pattern.{stands_at, has}
use Rattle.line_reader.specs.declared.reader.Reader.{Reader}
use Rattle.line_reader.specs.declared.reader.Reader.TheVariants.{Fresh, Open, Dropping}
use Rattle.port_state.specs.declared.State.{State}
use Rattle.port_state.specs.declared.State.TheVariants.{Complete, CheckLink, Up}
use Rattle.port_state.specs.declared.Device.{Device}
use Rattle.port_state.specs.declared.rounds.Round.{Round}
use Rattle.port_state.specs.Memory.{by_state, is_talking, Outcome}
use Rattle.port_state.specs.Rounds.{by_round, is_base, is_first}
use Rattle.port_timing.specs.Sending.{has_rate}
use Rattle.port_step.specs.declared.events.Event.{Event}
use Rattle.port_step.specs.declared.events.Event.TheVariants.{Edge, Tick, Sent, Report, Read, Write, Unnamed}
use Rattle.port_step.specs.Steps.{step_due}
use Rattle.promises.specs.AtTheDevice.{after}

-- Ack and Complete: there a page of the partner's is held, at every round;
abbrev pub is_ack_or_complete : State → Bool
is_ack_or_complete state = by_state state false false false true true false false

-- those in which there is an outcome.
abbrev pub has_outcome : State → Bool
has_outcome state = by_state state false false false false false true true

-- Where, of Ability, Ack and Complete, the partner's base page is held: in the last two, and in Ability too once Next Pages are exchanged.
abbrev pub holds_page : State → Round → Bool
holds_page state round = is_ack_or_complete state || (is_talking state && not (is_base round))

abbrev pub is_later : Round → Bool
is_later round = by_round round false false true

abbrev pub is_resolved : Outcome → Bool
is_resolved None = false
is_resolved (Some resolution) = true

-- An open attempt stands where every page has a transition, or one with a one bit there, and not at 157, which ends it.
abbrev pub stands_right : Reader → Bool
stands_right Fresh = true
stands_right (Open at last bits) = has (stands_at lsm_mode at) true && not (at =? 157)
stands_right (Dropping last) = true

-- A word with selector 1.
pub record IsPage (word : ℕ) : Type 0 where
  pub is_word : is_wide word ≡ false
  pub selector : has_other_selector word ≡ false

pub record Made (d : Device) : Type 0 where
  -- In Ability, Ack and Complete the own base page is a word with selector 1; where one is held, the partner's is too, with another nonce.
  pub own : is_talking d.state ≡ true → IsPage d.link.talk.own
  pub held : holds_page d.state d.link.next.round ≡ true → IsPage d.link.talk.held
  pub no_tie : holds_page d.state d.link.next.round ≡ true → is_tie d.link.talk.own d.link.talk.held ≡ false
  -- The own Next Page, and the one that 520-522 have, are words; so is what is advertised.
  pub own_next : is_wide d.link.next.own ≡ false
  pub transmit : is_wide d.link.next.transmit ≡ false
  pub advertised : is_wide d.lasting.advertised ≡ false
  -- 523-525 are zero at rounds base and first: a base page never stands there.
  pub none_heard : is_later d.link.next.round ≡ false → d.link.next.heard ≡ 0
  -- In Ack and Complete the round is never first: to get there the partner's page of the round was held.
  pub round : is_ack_or_complete d.state ≡ true → is_first d.link.next.round ≡ false
  -- In Complete at most three pages have been counted.
  pub count : d.state ≡ Complete → d.link.talk.count ≤ 3
  -- Outside Ability, Ack and Complete no page is out.
  pub none_out : is_talking d.state ≡ false → d.link.talk.out ≡ false
  -- There is an outcome just in Check-link and Up, so a settled one only there; in Up it is settled.
  pub outcome : is_resolved d.link.outcome ≡ has_outcome d.state
  pub up : d.state ≡ Up → has_rate d.link.outcome ≡ true
  -- An open attempt stands at a position of a page, before the last.
  pub reader : stands_right d.link.reader ≡ true

-- The kinds of answer that each event may have: nothing, refusals by their numbers in 01's table as amended, and of the others 0x80 a page, 0x81 a page ordered, 0x82
-- settled, 0x83 a register's value.
abbrev pub kinds_for : Event → List ℕ
kinds_for (Edge reading) = 0 ∷ 1 ∷ 2 ∷ 3 ∷ 4 ∷ 5 ∷ 6 ∷ 7 ∷ 17 ∷ 0x80 ∷ []
kinds_for (Tick reading draw) = 0 ∷ 0x81 ∷ []
kinds_for (Sent reading) = 0 ∷ 8 ∷ 9 ∷ 11 ∷ 0x82 ∷ []
kinds_for (Report reading up) = 0 ∷ []
kinds_for (Read reading register) = 10 ∷ 0x83 ∷ []
kinds_for (Write reading register value) = 0 ∷ 10 ∷ []
kinds_for Unnamed = 0 ∷ []

pub record MadeByCalls : Type 0 where
  pub made : (events : List Event) → Made (after events)
  -- "4, 5 or 13 as well (these only on a record that no call has made)": a page sent that takes a device from Complete to Check-link answers None, Roles or settled,
  pub settling : (events : List Event) (reading : ℕ) → (after events).state ≡ Complete → (step_due (Sent reading) (after events)).device.state ≡ CheckLink
      → among (step_due (Sent reading) (after events)).says.kind (8 ∷ 9 ∷ 0x82 ∷ []) ≡ true
  -- and each event has an answer of one of its kinds, with a value below 2^48: as one number of 64 bits it loses nothing.
  pub kinds : (events : List Event) (e : Event) → among (step_due e (after events)).says.kind (kinds_for e) ≡ true
  pub values : (events : List Event) (e : Event) → (step_due e (after events)).says.value < 2 ^ 48
