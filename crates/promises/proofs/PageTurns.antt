-- What an event does to the pages of a link: it leaves them, holds a base page or a Next Page, goes on to the next own page, or ends the talk. And to 517-519 and 523-525: it
-- forgets them, leaves them, or loads one of them with the page that it answers, which has Ack 1.
use Rattle.line_reader.specs.Endings.{Heard}
use Rattle.std.specs.Prelude.{Option, Some, None, Ok, Err}
use Prim.Native.Nat.{ℕ, ◌+◌, ◌%◌, ◌^◌, ◌<◌}
use mathlib.Core.Path.{◌≡◌, refl, sym, ap, ◌∙◌}
use mathlib.Core.Bool.{Bool, true, false, cond, not, ◌&&◌, ◌||◌, false≢true}
use mathlib.Core.List.{List}
use native.Mathlib.Omega.{arith}
use lib.Dec.{eqb, leb}
use borrow.Author.Tests.{eqb-false}
use Rattle.answers.specs.Answers.{Said, nothing, page_read}
use Rattle.page_word.specs.Word.{has_bit}
use Rattle.page_word.specs.Fields.{field_of, with_field, has_other_selector, is_tie}
use Rattle.page_word.specs.declared.fields.Field.TheVariants as field
use Rattle.page_word.specs.NextPages.{sets_next_page, toggle_of, same_toggle, null_message, inverse_toggle, next_after}
use Rattle.page_word.proofs.FieldLaws.{got, part_below}
use Rattle.line_mode.specs.declared.modes.LineMode.{LineMode}
use Rattle.line_reader.specs.declared.reader.Reader.{Reader}
use Rattle.line_reader.specs.Reading.{edge_of}
use Rattle.port_state.specs.declared.State.{State}
use Rattle.port_state.specs.declared.State.TheVariants.{Off, Break, Ability, Ack, Complete, CheckLink, Up}
use Rattle.port_state.specs.declared.rounds.Round.{Round}
use Rattle.port_state.specs.declared.rounds.Round.TheVariants.{Base, First, Later}
use Rattle.port_state.specs.declared.Link.{Link}
use Rattle.port_state.specs.declared.Device.{Device}
use Rattle.port_state.specs.Memory.{Due, due, is_talking}
use Rattle.port_state.specs.Changes.{with_state, with_reader}
use Rattle.port_state.specs.Rounds.{by_round, is_base, own_in_round, held_in_round}
use Rattle.port_registers.specs.declared.Bank.TheVariants as bank
use Rattle.port_registers.specs.declared.Register.{Register}
use Rattle.port_registers.specs.declared.Register.TheVariants.{Control, Status, Part}
use Rattle.port_registers.specs.Registers.{register_of, read_at, read_due, enters_break_by, commanded, write_at, write_due}
use Rattle.port_timing.specs.declared.profile.Profile.{Profile}
use Rattle.port_timing.specs.Ticks.{run_out, inhibit_of, may_order, orders, is_lost, talks, tick_in, tick_due}
use Rattle.port_timing.specs.Sending.{round_after, next_or_null, decided, counted, sent_in, sent_due, has_rate, report_in, report_due}
use Rattle.port_hearing.specs.BasePages.{is_changed, echoes_other, base_page_in_ability, base_page_in_ack}
use Rattle.port_hearing.specs.NextPages.{is_changed_next, repeats_held, next_page_in_ability, next_page_in_ack}
use Rattle.port_hearing.specs.Edges.{page_in_ability, page_in_ack, page_in, hears, edge_due}
use Rattle.port_step.specs.declared.events.Event.{Event}
use Rattle.port_step.specs.declared.events.Event.TheVariants.{Edge, Tick, Sent, Report, Read, Write, Unnamed}
use Rattle.port_step.specs.Steps.{step_over}
use Rattle.promises.specs.NextPageFacts.{is_ability, is_ack, is_complete, is_awake}
use Rattle.promises.proofs.ReaderFollows.{and_false}

-- The base pages of a link stay.
pub record SameBase (l m : Link) : Type 0 where
  pub own : m.talk.own ≡ l.talk.own
  pub held : m.talk.held ≡ l.talk.held

abbrev turning : State → State → Bool
turning s u = (is_complete s && is_ability u) || (is_ability s && is_ack u)

pub data Turn (s u : State) (l m : Link) : Type 0 where
  away : (is_talking s && is_talking u) ≡ false → Turn s u l m
  kept : turning s u ≡ false → own_in_round m ≡ own_in_round l → held_in_round m ≡ held_in_round l → SameBase l m → Turn s u l m
  held_base : (is_complete s && is_ability u) ≡ false → (is_ability s && is_ack u) ≡ true → is_base l.next.round ≡ true → own_in_round m ≡ own_in_round l → m.talk.own ≡ l.talk.own → Turn s u l m
  held_next : (is_complete s && is_ability u) ≡ false → (is_ability s && is_ack u) ≡ true → same_toggle (held_in_round m) (held_in_round l) ≡ false → own_in_round m ≡ own_in_round l
      → SameBase l m → Turn s u l m
  went_on : (is_complete s && is_ability u) ≡ true → (is_ability s && is_ack u) ≡ false → toggle_of (own_in_round m) ≡ inverse_toggle (own_in_round l)
      → held_in_round m ≡ held_in_round l → SameBase l m → Turn s u l m

-- A register that holds a page, before an event and after it: what the event says, and the states.
pub data Loads (s u : State) (says : Said) (before then : ℕ) : Type 0 where
  gone : then ≡ 0 → Loads s u says before then
  left : (is_awake u ≡ false → is_awake s ≡ false) → then ≡ before → Loads s u says before then
  loaded : is_awake u ≡ true → (word : ℕ) → says ≡ page_read word → field_of field.Ack word ≡ 1 → then ≡ word → Loads s u says before then

-- So it is with what is due to a device: its pages, 523-525 and 517-519.
pub record Turns (d : Device) (x : Due) : Type 0 where
  pub turn : Turn d.state x.device.state d.link x.device.link
  pub next : Loads d.state x.device.state x.says d.link.next.heard x.device.link.next.heard
  pub partner : Loads d.state x.device.state x.says d.link.partner x.device.link.partner

same_base : {l m : Link} → m.talk.own ≡ l.talk.own → m.talk.held ≡ l.talk.held → SameBase l m
same_base e f = record { own = e; held = f }

-- An event that keeps the state turns nothing.
not_turning : (s : State) → turning s s ≡ false
not_turning Off = refl
not_turning Break = refl
not_turning Ability = refl
not_turning Ack = refl
not_turning Complete = refl
not_turning CheckLink = refl
not_turning Up = refl

module _ {d : Device} where
  -- The link is forgotten.
  forgets : {x : Due} → (is_talking d.state && is_talking x.device.state) ≡ false → x.device.link.next.heard ≡ 0 → x.device.link.partner ≡ 0 → Turns d x
  forgets h next partner = record { turn = away h; next = gone next; partner = gone partner }

  -- The registers stay, and with them
  module _ {x : Due} (sleeps : is_awake x.device.state ≡ false → is_awake d.state ≡ false) (next : x.device.link.next.heard ≡ d.link.next.heard)
      (partner : x.device.link.partner ≡ d.link.partner) where
    with_turn : Turn d.state x.device.state d.link x.device.link → Turns d x
    with_turn turned = record { turn = turned; next = left sleeps next; partner = left sleeps partner }

  -- nothing is said of the pages, since the device does not talk before or after;
  ends : {x : Due} → (is_talking d.state && is_talking x.device.state) ≡ false → (is_awake x.device.state ≡ false → is_awake d.state ≡ false)
      → x.device.link.next.heard ≡ d.link.next.heard → x.device.link.partner ≡ d.link.partner → Turns d x
  ends h sleeps next partner = with_turn sleeps next partner (away h)

  -- or the pages stay.
  keeps : {x : Due} → turning d.state x.device.state ≡ false → (is_awake x.device.state ≡ false → is_awake d.state ≡ false)
      → own_in_round x.device.link ≡ own_in_round d.link → held_in_round x.device.link ≡ held_in_round d.link → SameBase d.link x.device.link
      → x.device.link.next.heard ≡ d.link.next.heard → x.device.link.partner ≡ d.link.partner → Turns d x
  keeps h sleeps own held base next partner = with_turn sleeps next partner (kept h own held base)

  either : {x y : Due} (t : Bool) → (t ≡ true → Turns d x) → (t ≡ false → Turns d y) → Turns d (cond t x y)
  either true a b = a refl
  either false a b = b refl

  either_device : {says : Said} {x y : Device} (t : Bool) → Turns d (due says x) → Turns d (due says y) → Turns d (due says (cond t x y))
  either_device true a b = a
  either_device false a b = b

-- Ack has one bit.
ack_one : (word : ℕ) → eqb (field_of field.Ack word) 0 ≡ false → field_of field.Ack word ≡ 1
ack_one word h = let l = part_below 14 1 word in let n = eqb-false (field_of field.Ack word) 0 h in one (field_of field.Ack word) l n
  where
    one : (n : ℕ) → n < 2 ^ 1 → (n ≡ 0 → ⊥) → n ≡ 1
    one n l other = omega arith

-- By round.
next_own : (r : Round) (base next : ℕ) → is_base r ≡ false → next ≡ by_round r base next next
next_own Base base next h = absurd (false≢true (sym h))
next_own First base next h = refl
next_own Later base next h = refl

own_anew : (r : Round) (base next : ℕ) → by_round (round_after r) base next next ≡ next
own_anew Base base next = refl
own_anew First base next = refl
own_anew Later base next = refl

held_still : (r : Round) (base next : ℕ) → by_round (round_after r) base base next ≡ by_round r base base next
held_still Base base next = refl
held_still First base next = refl
held_still Later base next = refl

one_bit : (t : Bool) → cond t 0 1 % 2 ^ 1 ≡ cond t 0 1
one_bit true = refl
one_bit false = refl

pub next_toggle : (before word : ℕ) → toggle_of (next_after before word) ≡ inverse_toggle before
unfolding next_after
next_toggle before word = got 11 1 (inverse_toggle before) (with_field field.Ack 0 word) ∙ one_bit (eqb (toggle_of before) 1)

new_toggle : (r : Round) (base before word : ℕ) → toggle_of (by_round (round_after r) base (next_after before word) (next_after before word)) ≡ inverse_toggle before
new_toggle r base before word = ap toggle_of (own_anew r base (next_after before word)) ∙ next_toggle before word

-- Good pages.
module _ (reading : ℕ) (r : Reader) where
  page_turns : (s : State) (word : ℕ) (d : Device) → Turns (with_state s d) (page_in s word reading (with_reader r (with_state s d)))
  unfolding page_in page_in_ability base_page_in_ability next_page_in_ability page_in_ack base_page_in_ack next_page_in_ack
  page_turns Off word d = ends refl (λ h. h) refl refl
  page_turns Break word d = ends refl (λ h. h) refl refl
  page_turns Ability word d =
      either (is_base d.link.next.round)
      (λ base. either (has_other_selector word) (λ _. keeps refl (λ h. h) refl refl (same_base refl refl) refl refl)
      (λ _. either (is_tie d.link.talk.own word) (λ _. forgets refl refl refl) (λ _. with_turn (λ h. absurd (false≢true (sym h))) refl refl (held_base refl refl base refl refl))))
      (λ next. either (repeats_held word (with_reader r (with_state Ability d)).link) (λ _. keeps refl (λ h. h) refl refl (same_base refl refl) refl refl)
      (λ _. either (same_toggle word (held_in_round d.link)) (λ _. forgets refl refl refl)
      (λ other. with_turn (λ h. absurd (false≢true (sym h))) refl refl
      (held_next refl refl other (next_own d.link.next.round d.link.talk.own d.link.next.own next) (same_base refl refl)))))
  page_turns Ack word d =
      either (is_base d.link.next.round)
      (λ _. either (is_changed word d.link.talk.held) (λ _. forgets refl refl refl)
      (λ _. either (eqb (field_of field.Ack word) 0) (λ _. keeps refl (λ h. h) refl refl (same_base refl refl) refl refl)
      (λ ack. either (echoes_other d.link.talk.own word) (λ _. forgets refl refl refl)
      (λ _. record { turn = kept refl refl refl (same_base refl refl); next = left (λ h. absurd (false≢true (sym h))) refl; partner = loaded refl word refl (ack_one word ack) refl }))))
      (λ _. either (is_changed_next word (held_in_round d.link)) (λ _. forgets refl refl refl)
      (λ _. either (eqb (field_of field.Ack word) 0) (λ _. keeps refl (λ h. h) refl refl (same_base refl refl) refl refl)
      (λ ack. record { turn = kept refl refl refl (same_base refl refl); next = loaded refl word refl (ack_one word ack) refl; partner = left (λ h. absurd (false≢true (sym h))) refl })))
  page_turns Complete word d = keeps refl (λ h. h) refl refl (same_base refl refl) refl refl
  page_turns CheckLink word d = ends refl (λ h. h) refl refl
  page_turns Up word d = ends refl (λ h. h) refl refl

  heard_turns : (h : Heard) (d : Device) → Turns d (hears h reading (with_reader r d))
  unfolding hears
  heard_turns None d = keeps (not_turning d.state) (λ h. h) refl refl (same_base refl refl) refl refl
  heard_turns (Some (Ok word)) d = page_turns d.state word d
  heard_turns (Some (Err broken)) d = keeps (not_turning d.state) (λ h. h) refl refl (same_base refl refl) refl refl

module _ (reading : ℕ) where
  edge_turns : (mode : LineMode) (d : Device) → Turns d (edge_due mode reading d)
  unfolding edge_due
  edge_turns mode d =
      let brought = edge_of mode d.link.reader reading in
      either (is_talking d.state && not d.link.talk.out) (λ _. heard_turns reading brought.reader brought.heard d)
      (λ _. keeps (not_turning d.state) (λ h. h) refl refl (same_base refl refl) refl refl)

  -- Ticks.
  talk_turns : (p : Profile) (word : ℕ) (d : Device) → Turns d (talks p reading word d)
  unfolding talks orders
  talk_turns p word d =
      either (is_lost p reading d.link) (λ _. forgets (and_false (is_talking d.state)) refl refl)
      (λ _. either (may_order p reading d.link) (λ _. keeps (not_turning d.state) (λ h. h) refl refl (same_base refl refl) refl refl) (λ _. keeps (not_turning d.state) (λ h. h) refl refl (same_base refl refl) refl refl))

  tick_in_law : (s : State) (p : Profile) (draw : ℕ) (d : Device) → Turns (with_state s d) (tick_in s p reading draw (with_state s d))
  tick_in_law Off p draw d = ends refl (λ h. h) refl refl
  tick_in_law Break p draw d = either_device (run_out p.breaking d.link.talk.timer reading) (ends refl (λ h. absurd (false≢true (sym h))) refl refl) (ends refl (λ h. h) refl refl)
  tick_in_law Ability p draw d = talk_turns p _ (with_state Ability d)
  tick_in_law Ack p draw d = talk_turns p _ (with_state Ack d)
  tick_in_law Complete p draw d = talk_turns p _ (with_state Complete d)
  tick_in_law CheckLink p draw d = either_device (run_out (inhibit_of d.link.outcome) d.link.talk.timer reading) (forgets refl refl refl) (ends refl (λ h. h) refl refl)
  tick_in_law Up p draw d = ends refl (λ h. h) refl refl

  tick_turns : (p : Profile) (draw : ℕ) (d : Device) → Turns d (tick_due p reading draw d)
  unfolding tick_due
  tick_turns p draw d = tick_in_law d.state p draw d

  -- Pages sent.
  sent_in_law : (s : State) (order : List ℕ) (d : Device) → Turns (with_state s d) (sent_in s order reading (with_state s d))
  unfolding counted decided next_or_null
  sent_in_law Off order d = ends refl (λ h. h) refl refl
  sent_in_law Break order d = ends refl (λ h. h) refl refl
  sent_in_law Ability order d = either d.link.talk.out (λ _. keeps refl (λ h. h) refl refl (same_base refl refl) refl refl) (λ _. keeps refl (λ h. h) refl refl (same_base refl refl) refl refl)
  sent_in_law Ack order d = either d.link.talk.out (λ _. keeps refl (λ h. h) refl refl (same_base refl refl) refl refl) (λ _. keeps refl (λ h. h) refl refl (same_base refl refl) refl refl)
  sent_in_law Complete order d =
      let round = d.link.next.round in
      let before = own_in_round d.link in
      let held = held_still round d.link.talk.held d.link.next.held in
      either d.link.talk.out
      (λ _. either (leb 3 (d.link.talk.count + 1))
      (λ _. either (sets_next_page before || sets_next_page (held_in_round d.link))
      (λ _. either_device d.link.next.loaded
      (with_turn (λ h. absurd (false≢true (sym h))) refl refl (went_on refl refl (new_toggle round d.link.talk.own before d.link.next.transmit) held (same_base refl refl)))
      (either_device (sets_next_page before) (keeps refl (λ h. h) refl refl (same_base refl refl) refl refl)
      (with_turn (λ h. absurd (false≢true (sym h))) refl refl (went_on refl refl (new_toggle round d.link.talk.own before null_message) held (same_base refl refl)))))
      (λ _. ends refl (λ h. absurd (false≢true (sym h))) refl refl))
      (λ _. keeps refl (λ h. h) refl refl (same_base refl refl) refl refl))
      (λ _. keeps refl (λ h. h) refl refl (same_base refl refl) refl refl)
  sent_in_law CheckLink order d = either d.link.talk.out (λ _. ends refl (λ h. h) refl refl) (λ _. ends refl (λ h. h) refl refl)
  sent_in_law Up order d = either d.link.talk.out (λ _. ends refl (λ h. h) refl refl) (λ _. ends refl (λ h. h) refl refl)

  sent_turns : (order : List ℕ) (d : Device) → Turns d (sent_due order reading d)
  unfolding sent_due
  sent_turns order d = sent_in_law d.state order d

  -- Reports: in Ability, Ack and Complete none is looked at.
  report_in_law : (s : State) (up : Bool) (d : Device) → Turns (with_state s d) (due nothing (report_in s up reading (with_state s d)))
  report_in_law Off up d = ends refl (λ h. h) refl refl
  report_in_law Break up d = ends refl (λ h. h) refl refl
  report_in_law Ability up d = keeps refl (λ h. h) refl refl (same_base refl refl) refl refl
  report_in_law Ack up d = keeps refl (λ h. h) refl refl (same_base refl refl) refl refl
  report_in_law Complete up d = keeps refl (λ h. h) refl refl (same_base refl refl) refl refl
  report_in_law CheckLink up d = either_device up (either_device (has_rate d.link.outcome) (ends refl (λ h. absurd (false≢true (sym h))) refl refl) (ends refl (λ h. h) refl refl)) (ends refl (λ h. h) refl refl)
  report_in_law Up up d = either_device up (ends refl (λ h. h) refl refl) (forgets refl refl refl)

  report_turns : (up : Bool) (d : Device) → Turns d (report_due up reading d)
  unfolding report_due
  report_turns up d = report_in_law d.state up d

  -- Registers.
  read_at_law : (r : Option Register) (d : Device) → Turns d (read_at r d)
  read_at_law (Some Control) d = keeps (not_turning d.state) (λ h. h) refl refl (same_base refl refl) refl refl
  read_at_law (Some Status) d = keeps (not_turning d.state) (λ h. h) refl refl (same_base refl refl) refl refl
  read_at_law (Some (Part bank third)) d = keeps (not_turning d.state) (λ h. h) refl refl (same_base refl refl) refl refl
  read_at_law None d = keeps (not_turning d.state) (λ h. h) refl refl (same_base refl refl) refl refl

  read_turns : (n : ℕ) (d : Device) → Turns d (read_due n d)
  unfolding read_due
  read_turns n d = read_at_law (register_of n) d

  write_at_law : (r : Option Register) (value : ℕ) (d : Device) → Turns d (write_at r value reading d)
  unfolding commanded
  write_at_law (Some Control) value d =
      either_device (has_bit value 15) (forgets (and_false (is_talking d.state)) refl refl)
      (either_device (has_bit value 12)
      (either_device (enters_break_by value d.state) (forgets (and_false (is_talking d.state)) refl refl) (keeps (not_turning d.state) (λ h. h) refl refl (same_base refl refl) refl refl))
      (forgets (and_false (is_talking d.state)) refl refl))
  write_at_law (Some Status) value d = keeps (not_turning d.state) (λ h. h) refl refl (same_base refl refl) refl refl
  write_at_law (Some (Part bank.Advertised third)) value d = keeps (not_turning d.state) (λ h. h) refl refl (same_base refl refl) refl refl
  write_at_law (Some (Part bank.Partner third)) value d = keeps (not_turning d.state) (λ h. h) refl refl (same_base refl refl) refl refl
  write_at_law (Some (Part bank.Transmit third)) value d = keeps (not_turning d.state) (λ h. h) refl refl (same_base refl refl) refl refl
  write_at_law (Some (Part bank.Heard third)) value d = keeps (not_turning d.state) (λ h. h) refl refl (same_base refl refl) refl refl
  write_at_law None value d = keeps (not_turning d.state) (λ h. h) refl refl (same_base refl refl) refl refl

  write_turns : (n value : ℕ) (d : Device) → Turns d (write_due n value reading d)
  unfolding write_due
  write_turns n value d = write_at_law (register_of n) value d

pub step_turns : (p : Profile) (order : List ℕ) (e : Event) (d : Device) → Turns d (step_over p order e d)
unfolding step_over
step_turns p order (Edge reading) d = edge_turns reading p.mode d
step_turns p order (Tick reading draw) d = tick_turns reading p draw d
step_turns p order (Sent reading) d = sent_turns reading order d
step_turns p order (Report reading up) d = report_turns reading up d
step_turns p order (Read reading register) d = read_turns reading register d
step_turns p order (Write reading register value) d = write_turns reading register value d
step_turns p order Unnamed d = keeps (not_turning d.state) (λ h. h) refl refl (same_base refl refl) refl refl
