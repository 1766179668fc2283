-- What is told quickly is what is due: of an edge, of a tick, of a read.
use Rattle.std.specs.Bool.{then_some}
use Rattle.std.specs.Prelude.{if◌then◌else◌, Some, None, Ok, Err}
use Prim.Native.Nat.{ℕ}
use mathlib.Core.Path.{◌≡◌, refl, sym, ap, ap₂, ◌∙◌, subst}
use mathlib.Core.Bool.{Bool, true, false, not, ◌&&◌, ◌||◌, true≢false}
use Rattle.answers.specs.Choices.{◌=?◌}
use Rattle.answers.specs.Answers.{packed, nothing}
use Rattle.answers.specs.Numbers.{refusal_of}
use Rattle.page_resolve.specs.Resolving.{rate_and_role}
use Rattle.line_mode.specs.declared.modes.LineMode.{LineMode}
use Rattle.line_mode.specs.Modes.{lsm_mode}
use Rattle.line_reader.specs.declared.endings.Broken.TheVariants.{Gap, Cut, Check}
use Rattle.line_reader.specs.declared.reader.Reader.{Reader}
use Rattle.line_reader.specs.declared.reader.Step.{Step}
use Rattle.line_reader.specs.Endings.{said_of_heard, Heard}
use Rattle.line_reader.specs.Reading.{edge_of}
use Rattle.port_state.specs.declared.State.{State}
use Rattle.port_state.specs.declared.State.TheVariants.{Off, Break, Ability, Ack, Complete, CheckLink, Up}
use Rattle.port_state.specs.declared.Device.{Device}
use Rattle.port_state.specs.declared.plain_record.PlainRecord.{PlainRecord}
use Rattle.port_state.specs.declared.plain_record.ReaderNumbers.{ReaderNumbers}
use Rattle.port_state.specs.Memory.{Due, due, is_talking}
use Rattle.port_state.specs.Changes.{with_reader}
use Rattle.port_state.specs.PlainRecords.{is_set, state_of, reader_of, reader_numbers, outcome_of, device_of}
use Rattle.port_state.proofs.PlainRecordLaws.{reader_back}
use Rattle.port_hearing.specs.Edges.{hears, listened, edge_due}
use Rattle.port_timing.specs.declared.profile.Profile.{Profile}
use Rattle.port_timing.specs.Ticks.{low_speed, inhibit_at, inhibit_of, may_order, is_lost, orders, talks, tick_in, tick_due}
use Rattle.port_lent.specs.declared.quick.Quick.{Quick}
use Rattle.port_lent.specs.declared.quick.Quick.TheVariants.{Kept}
use Rattle.port_lent.specs.Lent.{Tells}
use Rattle.port_lent.specs.Quickly.{with_reader_numbers, Fits, is_good}

-- Without a good page the answer says all that is heard, and nothing but the reader changes.
no_page : (heard : Heard) → is_good heard ≡ false → (reading : ℕ) (d : Device) → hears heard reading d ≡ due (said_of_heard heard) d
unfolding hears
no_page None none reading d = refl
no_page (Some (Ok word)) none reading d = absurd (true≢false none)
no_page (Some (Err Gap)) none reading d = refl
no_page (Some (Err Cut)) none reading d = refl
no_page (Some (Err Check)) none reading d = refl

-- A record with the numbers of another reader means the device with that reader.
other_reader : (reader : Reader) (plain : PlainRecord)
    → device_of (with_reader_numbers (reader_numbers reader) plain) ≡ with_reader reader (device_of plain)
unfolding device_of
other_reader reader plain = rw (reader_back reader) refl

-- What a step of the reader brings without a good page.
pub reader_moved : (step : Step) (answer : ℕ) (numbers : ReaderNumbers) → is_good step.heard ≡ false → answer ≡ packed (said_of_heard step.heard)
    → numbers ≡ reader_numbers step.reader → (plain : PlainRecord) (reading : ℕ)
    → Tells (record { answer = answer; after = with_reader_numbers numbers plain }) (listened step reading (device_of plain))
reader_moved step answer numbers none said same plain reading =
    record {
      answer = said ∙ ap (λ (x : Due). packed x.says) (sym heard);
      device = ap (λ (n : ReaderNumbers). device_of (with_reader_numbers n plain)) same
          ∙ other_reader step.reader plain ∙ ap (λ (x : Due). x.device) (sym heard);
    }
  where
    heard : listened step reading (device_of plain) ≡ due (said_of_heard step.heard) (with_reader step.reader (device_of plain))
    heard = no_page step.heard none reading (with_reader step.reader (device_of plain))

-- A tick that neither gives the link up nor orders a page does nothing.
pub idle_talk : (p : Profile) (reading word : ℕ) (d : Device) → (is_lost p reading d.link || may_order p reading d.link) ≡ false → talks p reading word d ≡ due nothing d
unfolding talks orders
idle_talk p reading word d idle = by (is_lost p reading d.link) (may_order p reading d.link) refl refl idle
  where
    by : (lost may : Bool) → is_lost p reading d.link ≡ lost → may_order p reading d.link ≡ may → (lost || may) ≡ false → talks p reading word d ≡ due nothing d
    by true may l m h = absurd (true≢false h)
    by false true l m h = absurd (true≢false h)
    by false false l m h = rw l (rw m refl)

-- So it is in each state in which pages are traded.
pub talking_idle : (state : State) (p : Profile) (reading draw : ℕ) (d : Device) → is_talking state ≡ true
    → (is_lost p reading d.link || may_order p reading d.link) ≡ false → tick_in state p reading draw d ≡ due nothing d
talking_idle Off p reading draw d talking idle = absurd (true≢false (sym talking))
talking_idle Break p reading draw d talking idle = absurd (true≢false (sym talking))
talking_idle Ability p reading draw d talking idle = idle_talk p reading _ d idle
talking_idle Ack p reading draw d talking idle = idle_talk p reading _ d idle
talking_idle Complete p reading draw d talking idle = idle_talk p reading _ d idle
talking_idle CheckLink p reading draw d talking idle = absurd (true≢false (sym talking))
talking_idle Up p reading draw d talking idle = absurd (true≢false (sym talking))

-- A state in which pages are traded.
pub talking : (plain : PlainRecord) (reading draw : ℕ) → is_talking (state_of plain.state) ≡ true
    → (is_lost low_speed reading (device_of plain).link || may_order low_speed reading (device_of plain).link) ≡ false
    → tick_due low_speed reading draw (device_of plain) ≡ due nothing (device_of plain)
unfolding tick_due device_of
talking plain reading draw trades idle = talking_idle (state_of plain.state) low_speed reading draw (device_of plain) trades idle

-- The inhibit time by the numbers of an outcome.
pub inhibit_by : (kind ability : ℕ) (master : Bool) → inhibit_of (outcome_of kind ability master) ≡ inhibit_at (then_some (kind =? 0x82) ability)
unfolding outcome_of
inhibit_by kind ability master = by (kind =? 0x82) (kind =? 0)
  where
    by : (settled none : Bool)
        → inhibit_of (if settled then Some (rate_and_role ability master) else if none then None else Some (Err (refusal_of kind))) ≡ inhibit_at (then_some settled ability)
    by true none = refl
    by false true = refl
    by false false = refl

-- Where nothing is due, nothing is said and the record stays.
pub nothing_due : (plain : PlainRecord) (d : Due) → d ≡ due nothing (device_of plain) → Fits (Kept 0) plain d
nothing_due plain d none =
    record { shown = record { answer = ap (λ (x : Due). packed x.says) (sym none); device = ap (λ (x : Due). x.device) (sym none) } }

-- The reader's step, by what a match has found.
pub steps_by : (reader found : Reader) (mode : LineMode) (reading : ℕ) (step : Step) → reader ≡ found → mode ≡ lsm_mode → step ≡ edge_of mode found reading
    → edge_of lsm_mode reader reading ≡ step
steps_by reader found mode reading step is speed steps =
    ap (λ (x : Reader). edge_of lsm_mode x reading) is ∙ ap (λ (m : LineMode). edge_of m found reading) (sym speed) ∙ sym steps

-- An edge, by what the code has asked: whether it is taken, and if so, what the reader makes of it.
module _ (plain : PlainRecord) (reading : ℕ) (state : State) (out takes : Bool) (is : state ≡ state_of plain.state) (sends : out ≡ is_set plain.is_out)
    (asked : takes ≡ (is_talking state && not out)) where
  asked_of_record : takes ≡ (is_talking (state_of plain.state) && not (is_set plain.is_out))
  asked_of_record = asked ∙ ap₂ (λ (s : State) (o : Bool). is_talking s && not o) is sends

  pub edge_taken : (quick : Quick) (reader : Reader) (step : Step) → takes ≡ true → reader ≡ reader_of plain.reader plain.position plain.last plain.bits
      → edge_of lsm_mode reader reading ≡ step → Fits quick plain (listened step reading (device_of plain)) → Fits quick plain (edge_due lsm_mode reading (device_of plain))
  unfolding edge_due device_of
  edge_taken quick reader step taken reads moves fits =
      rw (sym asked_of_record ∙ taken)
      (subst (λ (x : Step). Fits quick plain (listened x reading (device_of plain))) (sym moves ∙ ap (λ (r : Reader). edge_of lsm_mode r reading) reads) fits)
