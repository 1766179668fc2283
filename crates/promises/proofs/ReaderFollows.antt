-- The reader of a device after any events: along each event it is made fresh, or has taken the edges that were taken. So in Ability, Ack and Complete it is what the
-- edges taken since Break was left have made of a fresh one.
use Rattle.line_reader.specs.Endings.{Heard}
use Rattle.std.specs.Prelude.{Option, Some, None, Ok, Err}
use Prim.Native.Nat.{ℕ, zero, suc, ◌+◌}
use mathlib.Core.Path.{◌≡◌, refl, sym, ap, ap₂, ◌∙◌}
use mathlib.Core.Bool.{Bool, true, false, cond, not, ◌&&◌, ◌||◌, false≢true}
use mathlib.Core.List.{List, [], ◌∷◌, ◌++◌}
use lib.Dec.{eqb, leb}
use Rattle.answers.specs.Answers.{Said, nothing}
use Rattle.page_word.proofs.ComputedTest.{and_left, and_right}
use Rattle.page_word.specs.Word.{has_bit}
use Rattle.page_word.specs.Fields.{field_of, has_other_selector, is_tie}
use Rattle.page_word.specs.declared.fields.Field.TheVariants as field
use Rattle.page_resolve.specs.Rates.{rate_order}
use Rattle.line_mode.specs.declared.modes.Judgement.{Judgement}
use Rattle.line_mode.specs.declared.modes.Judgement.TheVariants.{Positions, Quiet, Unfit}
use Rattle.line_mode.specs.Clock.{time_between}
use Rattle.line_mode.specs.Gaps.{judgement_of}
use Rattle.line_mode.specs.Modes.{lsm_mode}
use Rattle.line_page.specs.Pattern.{stands_at, has}
use Rattle.line_reader.specs.declared.endings.Broken.TheVariants.{Gap}
use Rattle.line_reader.specs.declared.reader.Reader.{Reader}
use Rattle.line_reader.specs.declared.reader.Reader.TheVariants.{Fresh, Open, Dropping}
use Rattle.line_reader.specs.declared.reader.Step.{Step}
use Rattle.line_reader.specs.Pattern.{free, asks}
use Rattle.line_reader.specs.Reading.{step, with_bit, page_end, arrives, goes_on, drops_on, edge_of, reader_after}
use Rattle.line_captures.proofs.SinceOpened.{after_append}
use Rattle.port_state.specs.declared.State.{State}
use Rattle.port_state.specs.declared.State.TheVariants.{Off, Break, Ability, Ack, Complete, CheckLink, Up}
use Rattle.port_state.specs.declared.Device.{Device}
use Rattle.port_state.specs.Memory.{Due, due, is_talking, fresh_device}
use Rattle.port_state.specs.Changes.{with_state, with_reader}
use Rattle.port_registers.specs.declared.Bank.TheVariants as bank
use Rattle.port_registers.specs.declared.Register.{Register}
use Rattle.port_registers.specs.declared.Register.TheVariants.{Control, Status, Part}
use Rattle.port_registers.specs.Registers.{register_of, read_at, read_due, enters_break_by, commanded, write_at, write_due}
use Rattle.port_timing.specs.Ticks.{low_speed, run_out, inhibit_of, may_order, orders, is_lost, talks, tick_in, tick_due}
use Rattle.port_timing.specs.Sending.{next_or_null, decided, counted, sent_in, sent_due, has_rate, report_in, report_due}
use Rattle.port_state.specs.Rounds.{is_base, own_in_round, held_in_round}
use Rattle.page_word.specs.NextPages.{sets_next_page, same_toggle}
use Rattle.port_hearing.specs.BasePages.{is_changed, echoes_other, base_page_in_ability, base_page_in_ack}
use Rattle.port_hearing.specs.NextPages.{is_changed_next, repeats_held, next_page_in_ability, next_page_in_ack}
use Rattle.port_hearing.specs.Edges.{page_in_ability, page_in_ack, page_in, hears, takes_edges, edge_due}
use Rattle.port_step.specs.declared.events.Event.{Event}
use Rattle.port_step.specs.declared.events.Event.TheVariants.{Edge, Tick, Sent, Report, Read, Write, Unnamed}
use Rattle.port_step.specs.Steps.{step_over, step_due, after_all}
use Rattle.promises.specs.AtTheDevice.{taken_of, taken_next, taken_along, after, reader_of}
use Rattle.promises.specs.MadeByCalls.{stands_right}

-- The reader after an event, by whether the device talked before it, and talks after it: fresh, where it does not do both; or the one of before after the edges
-- that were taken, where it does both, or neither, or no longer.
pub data Follows (talked talks : Bool) (edges : List ℕ) (r s : Reader) : Type 0 where
  anew : (talked && talks) ≡ false → s ≡ Fresh → Follows talked talks edges r s
  on : talked ≡ talks → s ≡ reader_after lsm_mode r edges → Follows talked talks edges r s
  away : talks ≡ false → s ≡ reader_after lsm_mode r edges → Follows talked talks edges r s

-- So it is with what is due to a device.
pub record Reads (edges : List ℕ) (d : Device) (x : Due) : Type 0 where
  pub follows : Follows (is_talking d.state) (is_talking x.device.state) edges d.link.reader x.device.link.reader

module _ {edges : List ℕ} {d : Device} where
  fresh_then : {x : Due} → (is_talking d.state && is_talking x.device.state) ≡ false → x.device.link.reader ≡ Fresh → Reads edges d x
  fresh_then h e = record { follows = anew h e }

  goes : {x : Due} → is_talking d.state ≡ is_talking x.device.state → x.device.link.reader ≡ reader_after lsm_mode d.link.reader edges → Reads edges d x
  goes h e = record { follows = on h e }

  leaves : {x : Due} → is_talking x.device.state ≡ false → x.device.link.reader ≡ reader_after lsm_mode d.link.reader edges → Reads edges d x
  leaves h e = record { follows = away h e }

  either : {x y : Due} (t : Bool) → Reads edges d x → Reads edges d y → Reads edges d (cond t x y)
  either true a b = a
  either false a b = b

  either_device : {says : Said} {x y : Device} (t : Bool) → Reads edges d (due says x) → Reads edges d (due says y) → Reads edges d (due says (cond t x y))
  either_device true a b = a
  either_device false a b = b

pub and_false : (t : Bool) → (t && false) ≡ false
and_false true = refl
and_false false = refl

-- Edges. The reader has taken the edge; only Tie, Changed, Echo and Toggle make it fresh, on the way into Break.
module _ (reading : ℕ) (edges : List ℕ) (d : Device) (r : Reader) (same : r ≡ reader_after lsm_mode d.link.reader edges) where
  page_reads : (s : State) (word : ℕ) → Reads edges (with_state s d) (page_in s word reading (with_reader r (with_state s d)))
  unfolding page_in page_in_ability base_page_in_ability next_page_in_ability page_in_ack base_page_in_ack next_page_in_ack
  page_reads Off word = goes refl same
  page_reads Break word = goes refl same
  page_reads Ability word =
      either (is_base d.link.next.round) (either (has_other_selector word) (goes refl same) (either (is_tie d.link.talk.own word) (fresh_then refl refl) (goes refl same)))
      (either (repeats_held word (with_reader r (with_state Ability d)).link) (goes refl same) (either (same_toggle word (held_in_round d.link)) (fresh_then refl refl) (goes refl same)))
  page_reads Ack word =
      either (is_base d.link.next.round)
      (either (is_changed word d.link.talk.held) (fresh_then refl refl)
      (either (eqb (field_of field.Ack word) 0) (goes refl same) (either (echoes_other d.link.talk.own word) (fresh_then refl refl) (goes refl same))))
      (either (is_changed_next word (held_in_round d.link)) (fresh_then refl refl) (either (eqb (field_of field.Ack word) 0) (goes refl same) (goes refl same)))
  page_reads Complete word = goes refl same
  page_reads CheckLink word = goes refl same
  page_reads Up word = goes refl same

  heard_reads : (h : Heard) → Reads edges d (hears h reading (with_reader r d))
  unfolding hears
  heard_reads None = goes refl same
  heard_reads (Some (Ok word)) = page_reads d.state word
  heard_reads (Some (Err broken)) = goes refl same

edge_reads : (reading : ℕ) (d : Device) → Reads (taken_of (Edge reading) d) d (edge_due lsm_mode reading d)
unfolding edge_due
edge_reads reading d = by (takes_edges d)
  where
    brought : Step
    brought = edge_of lsm_mode d.link.reader reading

    by : (t : Bool) → Reads (cond t (reading ∷ []) []) d (cond t (hears brought.heard reading (with_reader brought.reader d)) (due nothing d))
    by true = heard_reads reading (reading ∷ []) d brought.reader refl brought.heard
    by false = goes refl refl

-- Ticks: leaving Break, and going into it.
order_reads : (reading word : ℕ) (d : Device) → Reads [] d (orders low_speed reading word d)
unfolding orders
order_reads reading word d = either (may_order low_speed reading d.link) (goes refl refl) (goes refl refl)

talk_reads : (reading word : ℕ) (d : Device) → Reads [] d (talks low_speed reading word d)
unfolding talks
talk_reads reading word d = either (is_lost low_speed reading d.link) (fresh_then (and_false (is_talking d.state)) refl) (order_reads reading word d)

tick_in_law : (s : State) (reading draw : ℕ) (d : Device) → Reads [] (with_state s d) (tick_in s low_speed reading draw (with_state s d))
tick_in_law Off reading draw d = goes refl refl
tick_in_law Break reading draw d = either_device (run_out low_speed.breaking d.link.talk.timer reading) (fresh_then refl refl) (goes refl refl)
tick_in_law Ability reading draw d = talk_reads reading _ (with_state Ability d)
tick_in_law Ack reading draw d = talk_reads reading _ (with_state Ack d)
tick_in_law Complete reading draw d = talk_reads reading _ (with_state Complete d)
tick_in_law CheckLink reading draw d = either_device (run_out (inhibit_of d.link.outcome) d.link.talk.timer reading) (fresh_then refl refl) (goes refl refl)
tick_in_law Up reading draw d = goes refl refl

tick_reads : (reading draw : ℕ) (d : Device) → Reads [] d (tick_due low_speed reading draw d)
unfolding tick_due
tick_reads reading draw d = tick_in_law d.state reading draw d

-- Pages sent: the reader stays.
sent_in_law : (s : State) (reading : ℕ) (d : Device) → Reads [] (with_state s d) (sent_in s rate_order reading (with_state s d))
unfolding counted decided next_or_null
sent_in_law Off reading d = goes refl refl
sent_in_law Break reading d = goes refl refl
sent_in_law Ability reading d = either d.link.talk.out (goes refl refl) (goes refl refl)
sent_in_law Ack reading d = either d.link.talk.out (goes refl refl) (goes refl refl)
sent_in_law Complete reading d =
    either d.link.talk.out
    (either (leb 3 (d.link.talk.count + 1))
    (either (sets_next_page (own_in_round d.link) || sets_next_page (held_in_round d.link))
    (either_device d.link.next.loaded (goes refl refl) (either_device (sets_next_page (own_in_round d.link)) (goes refl refl) (goes refl refl)))
    (leaves refl refl))
    (goes refl refl))
    (goes refl refl)
sent_in_law CheckLink reading d = either d.link.talk.out (goes refl refl) (goes refl refl)
sent_in_law Up reading d = either d.link.talk.out (goes refl refl) (goes refl refl)

sent_reads : (reading : ℕ) (d : Device) → Reads [] d (sent_due rate_order reading d)
unfolding sent_due
sent_reads reading d = sent_in_law d.state reading d

-- Reports: link down.
report_in_law : (s : State) (up : Bool) (reading : ℕ) (d : Device) → Reads [] (with_state s d) (due nothing (report_in s up reading (with_state s d)))
report_in_law Off up reading d = goes refl refl
report_in_law Break up reading d = goes refl refl
report_in_law Ability up reading d = goes refl refl
report_in_law Ack up reading d = goes refl refl
report_in_law Complete up reading d = goes refl refl
report_in_law CheckLink up reading d = either_device up (either_device (has_rate d.link.outcome) (goes refl refl) (goes refl refl)) (goes refl refl)
report_in_law Up up reading d = either_device up (goes refl refl) (fresh_then refl refl)

report_reads : (up : Bool) (reading : ℕ) (d : Device) → Reads [] d (report_due up reading d)
unfolding report_due
report_reads up reading d = report_in_law d.state up reading d

-- Registers: a write to 512.
read_at_law : (r : Option Register) (d : Device) → Reads [] d (read_at r d)
read_at_law (Some Control) d = goes refl refl
read_at_law (Some Status) d = goes refl refl
read_at_law (Some (Part bank third)) d = goes refl refl
read_at_law None d = goes refl refl

read_reads : (n : ℕ) (d : Device) → Reads [] d (read_due n d)
unfolding read_due
read_reads n d = read_at_law (register_of n) d

write_at_law : (r : Option Register) (value reading : ℕ) (d : Device) → Reads [] d (write_at r value reading d)
unfolding commanded
write_at_law (Some Control) value reading d =
    either_device (has_bit value 15) (fresh_then (and_false (is_talking d.state)) refl)
    (either_device (has_bit value 12) (either_device (enters_break_by value d.state) (fresh_then (and_false (is_talking d.state)) refl) (goes refl refl))
    (fresh_then (and_false (is_talking d.state)) refl))
write_at_law (Some Status) value reading d = goes refl refl
write_at_law (Some (Part bank.Advertised third)) value reading d = goes refl refl
write_at_law (Some (Part bank.Partner third)) value reading d = goes refl refl
write_at_law (Some (Part bank.Transmit third)) value reading d = goes refl refl
write_at_law (Some (Part bank.Heard third)) value reading d = goes refl refl
write_at_law None value reading d = goes refl refl

write_reads : (n value reading : ℕ) (d : Device) → Reads [] d (write_due n value reading d)
unfolding write_due
write_reads n value reading d = write_at_law (register_of n) value reading d

pub step_reads : (e : Event) (d : Device) → Reads (taken_of e d) d (step_due e d)
unfolding step_over
step_reads (Edge reading) d = edge_reads reading d
step_reads (Tick reading draw) d = tick_reads reading draw d
step_reads (Sent reading) d = sent_reads reading d
step_reads (Report reading up) d = report_reads up reading d
step_reads (Read reading register) d = read_reads register d
step_reads (Write reading register value) d = write_reads register value reading d
step_reads Unnamed d = goes refl refl

-- The reader is what the edges taken make of a fresh one, where edges may be taken.
after_one : (talked talks : Bool) (edges more : List ℕ) (r s : Reader) → (talked ≡ true → r ≡ reader_after lsm_mode Fresh edges) → Follows talked talks more r s
    → talks ≡ true → s ≡ reader_after lsm_mode Fresh (cond (talked && talks) (edges ++ more) [])
after_one talked talks edges more r s e (anew h fresh) t = rw h fresh
after_one talked talks edges more r s e (on h same) t =
    rw (h, t) (same ∙ ap (λ (x : Reader). reader_after lsm_mode x more) (e (h ∙ t)) ∙ sym (after_append lsm_mode Fresh edges more))
after_one talked talks edges more r s e (away h same) t = absurd (false≢true (sym h ∙ t))

along : (edges : List ℕ) (d : Device) (events : List Event) → (is_talking d.state ≡ true → d.link.reader ≡ reader_after lsm_mode Fresh edges)
    → is_talking (after_all d events).state ≡ true → (after_all d events).link.reader ≡ reader_after lsm_mode Fresh (taken_along edges d events)
unfolding after_all taken_along
along edges d [] e = e
along edges d (event ∷ later) e =
    along (taken_next edges event d) (step_due event d).device later
    (after_one (is_talking d.state) (is_talking (step_due event d).device.state) edges (taken_of event d) d.link.reader (step_due event d).device.link.reader e
    (step_reads event d).follows)

pub reader_taken : (past : List Event) → is_talking (after past).state ≡ true → (after past).link.reader ≡ reader_of past
reader_taken past = along [] fresh_device past (λ _. refl)

-- A reader that began fresh stands where a page has a transition.
asked_stands : (at k : ℕ) → asks lsm_mode at k ≡ true → has (stands_at lsm_mode (at + k)) true ≡ true
unfolding asks
asked_stands at zero h = absurd (false≢true h)
asked_stands at (suc n) h =
    and_left (has (stands_at lsm_mode (at + suc n)) true) (free lsm_mode at n)
    (and_right (has (stands_at lsm_mode at) true) (has (stands_at lsm_mode (at + suc n)) true && free lsm_mode at n) h)

first_stands : (x bits : ℕ) → stands_right (Open 1 x bits) ≡ true
unfolding stands_at
first_stands x bits = refl

arrives_stands : (at bits x : ℕ) → has (stands_at lsm_mode at) true ≡ true → stands_right (arrives at bits x).reader ≡ true
unfolding arrives
arrives_stands at bits x h = by (eqb at 157) refl
  where
    by : (t : Bool) → eqb at 157 ≡ t → stands_right (cond t (step (Some (page_end bits)) (Dropping x)) (step None (Open at x bits))).reader ≡ true
    by true e = refl
    by false e = ap₂ ◌&&◌ h (ap not e)

goes_stands : (at bits x : ℕ) (j : Judgement) → stands_right (goes_on lsm_mode at bits x j).reader ≡ true
unfolding goes_on
goes_stands at bits x Quiet = first_stands x 0
goes_stands at bits x Unfit = refl
goes_stands at bits x (Positions k) = by (asks lsm_mode at k) refl
  where
    by : (t : Bool) → asks lsm_mode at k ≡ t → stands_right (cond t (arrives (at + k) (with_bit at k bits) x) (step (Some (Err Gap)) (Dropping x))).reader ≡ true
    by true h = arrives_stands (at + k) (with_bit at k bits) x (asked_stands at k h)
    by false h = refl

drops_stands : (x : ℕ) (j : Judgement) → stands_right (drops_on x j).reader ≡ true
unfolding drops_on
drops_stands x Quiet = first_stands x 0
drops_stands x Unfit = refl
drops_stands x (Positions k) = refl

edge_stands : (r : Reader) (x : ℕ) → stands_right (edge_of lsm_mode r x).reader ≡ true
unfolding edge_of
edge_stands Fresh x = first_stands x 0
edge_stands (Open at last bits) x = goes_stands at bits x (judgement_of lsm_mode (time_between x last))
edge_stands (Dropping last) x = drops_stands x (judgement_of lsm_mode (time_between x last))

edges_stand : (r : Reader) (edges : List ℕ) → stands_right r ≡ true → stands_right (reader_after lsm_mode r edges) ≡ true
edges_stand r [] h = h
edges_stand r (x ∷ edges) h = edges_stand (edge_of lsm_mode r x).reader edges (edge_stands r x)

follows_stands : (talked talks : Bool) (edges : List ℕ) (r s : Reader) → stands_right r ≡ true → Follows talked talks edges r s → stands_right s ≡ true
follows_stands talked talks edges r s h (anew a fresh) = ap stands_right fresh
follows_stands talked talks edges r s h (on a same) = ap stands_right same ∙ edges_stand r edges h
follows_stands talked talks edges r s h (away a same) = ap stands_right same ∙ edges_stand r edges h

pub all_stand : (d : Device) (events : List Event) → stands_right d.link.reader ≡ true → stands_right (after_all d events).link.reader ≡ true
unfolding after_all
all_stand d [] h = h
all_stand d (event ∷ later) h =
    all_stand (step_due event d).device later
    (follows_stands (is_talking d.state) (is_talking (step_due event d).device.state) (taken_of event d) d.link.reader (step_due event d).device.link.reader h
    (step_reads event d).follows)
