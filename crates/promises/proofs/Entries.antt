-- Every way into Break is one: whatever the device was, it is the entered device at the event's reading. An event that merely leaves a device in
-- Break is none.
use Rattle.line_reader.specs.Endings.{Heard}
use Rattle.std.specs.Prelude.{Option, Some, None, Ok, Err}
use Prim.Native.Nat.{ℕ, ◌+◌}
use mathlib.Core.Path.{◌≡◌, refl, sym, ap, ◌∙◌, subst}
use mathlib.Core.Bool.{Bool, true, false, cond, not, ◌&&◌, ◌||◌, false≢true}
use mathlib.Core.List.{List}
use lib.Dec.{eqb, leb}
use Rattle.answers.specs.Answers.{Said, nothing}
use Rattle.page_word.specs.Fields.{field_of, has_other_selector, is_tie}
use Rattle.page_word.specs.declared.fields.Field.TheVariants as field
use Rattle.line_reader.specs.declared.reader.Reader.{Reader}
use Rattle.line_reader.specs.Reading.{edge_of}
use Rattle.port_state.specs.declared.State.{State}
use Rattle.port_state.specs.declared.State.TheVariants.{Off, Break, Ability, Ack, Complete, CheckLink, Up}
use Rattle.port_state.specs.declared.Device.{Device}
use Rattle.port_state.specs.Memory.{is_talking, is_break, Due, due, is_off, into_break, into_off}
use Rattle.port_state.specs.Changes.{with_state, with_reader}
use Rattle.page_word.specs.Word.{has_bit}
use Rattle.port_registers.specs.declared.Bank.TheVariants as bank
use Rattle.port_registers.specs.declared.Register.{Register}
use Rattle.port_registers.specs.declared.Register.TheVariants.{Control, Status, Part}
use Rattle.port_registers.specs.Registers.{register_of, read_at, read_due, commanded, write_at, write_due}
use Rattle.port_registers.proofs.RegisterNumbers.{is_control, control_number}
use Rattle.line_mode.specs.declared.modes.LineMode.{LineMode}
use Rattle.port_timing.specs.declared.profile.Profile.{Profile}
use Rattle.port_timing.specs.Ticks.{run_out, inhibit_of, may_order, orders, is_lost, talks, tick_in, tick_due}
use Rattle.port_state.specs.Rounds.{is_base, own_in_round, held_in_round}
use Rattle.page_word.specs.NextPages.{sets_next_page, same_toggle}
use Rattle.port_hearing.specs.BasePages.{is_changed, echoes_other, base_page_in_ability, base_page_in_ack}
use Rattle.port_hearing.specs.NextPages.{is_changed_next, repeats_held, next_page_in_ability, next_page_in_ack}
use Rattle.port_hearing.specs.Edges.{page_in_ability, page_in_ack, page_in, hears, edge_due}
use Rattle.port_timing.specs.Sending.{next_or_null, decided, counted, sent_in, sent_due, has_rate, report_in, report_due}
use Rattle.port_step.specs.declared.events.Event.{Event}
use Rattle.port_step.specs.declared.events.Event.TheVariants.{Edge, Tick, Sent, Report, Read, Write, Unnamed}
use Rattle.port_step.specs.Steps.{step_over}
use Rattle.promises.specs.TwoPasts.{restarts, reading_of}

-- If x is what an event at this reading brings to d: a device that is in Break, and was not or was restarted, is the entered one.
pub record Entry (restarted : Bool) (reading : ℕ) (d : Device) (x : Due) : Type 0 where
  pub same : (is_break x.device.state && (not (is_break d.state) || restarted)) ≡ true → x.device ≡ into_break reading d

stays_out : (t : Bool) → (t && (not t || false)) ≡ true → ⊥
stays_out true h = false≢true h
stays_out false h = false≢true h

-- The entered device itself, one that is in another state, and one whose state is kept.
module _ {reading : ℕ} {d : Device} where
  it : {restarted : Bool} {s : Said} → Entry restarted reading d (due s (into_break reading d))
  it = record { same = λ h. refl }

  elsewhere : {restarted : Bool} {x : Due} → is_break x.device.state ≡ false → Entry restarted reading d x
  elsewhere {restarted} not_there =
      record { same = λ h. absurd (false≢true (sym (ap (λ (t : Bool). t && (not (is_break d.state) || restarted)) not_there) ∙ h)) }

  stays : {x : Due} → x.device.state ≡ d.state → Entry false reading d x
  stays there =
      record { same = λ h. absurd (stays_out (is_break d.state) (subst (λ (s : State). (is_break s && (not (is_break d.state) || false)) ≡ true) there h)) }

  -- Under a test.
  due_if : {restarted : Bool} {x y : Due} (t : Bool) → Entry restarted reading d x → Entry restarted reading d y → Entry restarted reading d (cond t x y)
  due_if true a b = a
  due_if false a b = b

  entry_if : {restarted : Bool} {s : Said} {x y : Device} (t : Bool) → Entry restarted reading d (due s x) → Entry restarted reading d (due s y)
      → Entry restarted reading d (due s (cond t x y))
  entry_if true a b = a
  entry_if false a b = b

module _ (reading : ℕ) where
  -- Pages: Tie, Changed, Echo and Toggle.
  page_entry : (s : State) (word : ℕ) (d : Device) (r : Reader) → Entry false reading (with_state s d) (page_in s word reading (with_reader r (with_state s d)))
  unfolding page_in page_in_ability base_page_in_ability next_page_in_ability page_in_ack base_page_in_ack next_page_in_ack
  page_entry Off word d r = stays refl
  page_entry Break word d r = stays refl
  page_entry Ability word d r =
      due_if (is_base d.link.next.round) (due_if (has_other_selector word) (stays refl) (due_if (is_tie d.link.talk.own word) it (elsewhere refl)))
      (due_if (repeats_held word (with_reader r (with_state Ability d)).link) (stays refl) (due_if (same_toggle word (held_in_round d.link)) it (elsewhere refl)))
  page_entry Ack word d r =
      due_if (is_base d.link.next.round)
      (due_if (is_changed word d.link.talk.held) it
      (due_if (eqb (field_of field.Ack word) 0) (stays refl) (due_if (echoes_other d.link.talk.own word) it (elsewhere refl))))
      (due_if (is_changed_next word (held_in_round d.link)) it (due_if (eqb (field_of field.Ack word) 0) (stays refl) (elsewhere refl)))
  page_entry Complete word d r = stays refl
  page_entry CheckLink word d r = stays refl
  page_entry Up word d r = stays refl

  heard_entry : (h : Heard) (r : Reader) (d : Device) → Entry false reading d (hears h reading (with_reader r d))
  unfolding hears
  heard_entry None r d = stays refl
  heard_entry (Some (Ok word)) r d = page_entry d.state word d r
  heard_entry (Some (Err broken)) r d = stays refl

  edge_entry : (mode : LineMode) (d : Device) → Entry false reading d (edge_due mode reading d)
  unfolding edge_due
  edge_entry mode d =
      due_if (is_talking d.state && not d.link.talk.out) (heard_entry (edge_of mode d.link.reader reading).heard (edge_of mode d.link.reader reading).reader d) (stays refl)

  -- Ticks: the inhibit timer in Check-link, and a partner that is lost.
  order_entry : (p : Profile) (word : ℕ) (d : Device) → Entry false reading d (orders p reading word d)
  unfolding orders
  order_entry p word d = due_if (may_order p reading d.link) (stays refl) (stays refl)

  talk_entry : (p : Profile) (word : ℕ) (d : Device) → Entry false reading d (talks p reading word d)
  unfolding talks
  talk_entry p word d = due_if (is_lost p reading d.link) it (order_entry p word d)

  tick_in_law : (s : State) (p : Profile) (draw : ℕ) (d : Device) → Entry false reading (with_state s d) (tick_in s p reading draw (with_state s d))
  tick_in_law Off p draw d = stays refl
  tick_in_law Break p draw d = entry_if (run_out p.breaking d.link.talk.timer reading) (elsewhere refl) (stays refl)
  tick_in_law Ability p draw d = talk_entry p _ (with_state Ability d)
  tick_in_law Ack p draw d = talk_entry p _ (with_state Ack d)
  tick_in_law Complete p draw d = talk_entry p _ (with_state Complete d)
  tick_in_law CheckLink p draw d = entry_if (run_out (inhibit_of d.link.outcome) d.link.talk.timer reading) it (stays refl)
  tick_in_law Up p draw d = stays refl

  tick_entry : (p : Profile) (draw : ℕ) (d : Device) → Entry false reading d (tick_due p reading draw d)
  unfolding tick_due
  tick_entry p draw d = tick_in_law d.state p draw d

  -- Pages sent: none.
  sent_in_law : (s : State) (order : List ℕ) (d : Device) → Entry false reading (with_state s d) (sent_in s order reading (with_state s d))
  unfolding counted decided next_or_null
  sent_in_law Off order d = stays refl
  sent_in_law Break order d = stays refl
  sent_in_law Ability order d = due_if d.link.talk.out (stays refl) (stays refl)
  sent_in_law Ack order d = due_if d.link.talk.out (stays refl) (stays refl)
  sent_in_law Complete order d = due_if d.link.talk.out
      (due_if (leb 3 (d.link.talk.count + 1))
      (due_if (sets_next_page (own_in_round d.link) || sets_next_page (held_in_round d.link))
      (entry_if d.link.next.loaded (elsewhere refl) (entry_if (sets_next_page (own_in_round d.link)) (stays refl) (elsewhere refl)))
      (elsewhere refl))
      (stays refl))
      (stays refl)
  sent_in_law CheckLink order d = due_if d.link.talk.out (stays refl) (stays refl)
  sent_in_law Up order d = due_if d.link.talk.out (stays refl) (stays refl)

  sent_entry : (order : List ℕ) (d : Device) → Entry false reading d (sent_due order reading d)
  unfolding sent_due
  sent_entry order d = sent_in_law d.state order d

  -- Reports: link down in Up.
  report_in_law : (s : State) (up : Bool) (d : Device) → Entry false reading (with_state s d) (due nothing (report_in s up reading (with_state s d)))
  report_in_law Off up d = stays refl
  report_in_law Break up d = stays refl
  report_in_law Ability up d = stays refl
  report_in_law Ack up d = stays refl
  report_in_law Complete up d = stays refl
  report_in_law CheckLink up d = entry_if up (entry_if (has_rate d.link.outcome) (elsewhere refl) (stays refl)) (stays refl)
  report_in_law Up up d = entry_if up (stays refl) it

  report_entry : (up : Bool) (d : Device) → Entry false reading d (report_due up reading d)
  unfolding report_due
  report_entry up d = report_in_law d.state up d

  -- Reads: none.
  read_at_law : (r : Option Register) (d : Device) → Entry false reading d (read_at r d)
  read_at_law (Some Control) d = stays refl
  read_at_law (Some Status) d = stays refl
  read_at_law (Some (Part bank third)) d = stays refl
  read_at_law None d = stays refl

  read_entry : (n : ℕ) (d : Device) → Entry false reading d (read_due n d)
  unfolding read_due
  read_entry n d = read_at_law (register_of n) d

  -- Writes: enabling and restarting.
  command_entry : (enable restart : Bool) (d : Device)
      → Entry (enable && restart) reading d (due nothing (cond enable (cond (restart || is_off d.state) (into_break reading d) d) (into_off d)))
  command_entry true true d = it
  command_entry true false d = entry_if (is_off d.state) it (stays refl)
  command_entry false restart d = elsewhere refl

  write_at_law : (r : Option Register) (value : ℕ) (d : Device)
      → Entry (is_control r && (has_bit value 12 && has_bit value 9)) reading d (write_at r value reading d)
  unfolding commanded
  write_at_law (Some Control) value d = entry_if (has_bit value 15) (elsewhere refl) (command_entry (has_bit value 12) (has_bit value 9) d)
  write_at_law (Some Status) value d = stays refl
  write_at_law (Some (Part bank.Advertised third)) value d = stays refl
  write_at_law (Some (Part bank.Partner third)) value d = stays refl
  write_at_law (Some (Part bank.Transmit third)) value d = stays refl
  write_at_law (Some (Part bank.Heard third)) value d = stays refl
  write_at_law None value d = stays refl

  write_entry : (n value : ℕ) (d : Device) → Entry (eqb n 512 && (has_bit value 12 && has_bit value 9)) reading d (write_due n value reading d)
  unfolding write_due
  write_entry n value d = rw (control_number n) (write_at_law (register_of n) value d)

pub step_entry : (p : Profile) (order : List ℕ) (e : Event) (d : Device) → Entry (restarts e) (reading_of e) d (step_over p order e d)
unfolding step_over
step_entry p order (Edge reading) d = edge_entry reading p.mode d
step_entry p order (Tick reading draw) d = tick_entry reading p draw d
step_entry p order (Sent reading) d = sent_entry reading order d
step_entry p order (Report reading up) d = report_entry reading up d
step_entry p order (Read reading register) d = read_entry reading register d
step_entry p order (Write reading register value) d = write_entry reading register value d
step_entry p order Unnamed d = stays refl
