-- 01, "What the promises have to say": "That no second answer fits is proved". A contract fixes its result: whatever two results meet it are the same; `meant` is the one exception.
use Rattle.line_captures.specs.Captures.{ReadOutcome}
use Rattle.std.specs.Prelude.{ℕ, ◌≡◌, Bool, true, List, Option, Result, Ok, Err}
use Rattle.answers.specs.declared.Refusal.{Refusal}
use Rattle.answers.specs.declared.Answer.{Answer}
use Rattle.answers.specs.Answers.{Said, said, said_count, is_byte, ability_is_byte}
use Rattle.page_resolve.specs.Resolving.{said_of, Resolution}
use Rattle.line_reader.specs.declared.reader.Reader.{Reader}
use Rattle.line_reader.specs.declared.reader.Step.{Step}
use Rattle.line_reader.specs.Endings.{said_of_ending, said_of_heard, Ending, Heard}
use Rattle.line_mode.specs.declared.modes.LineMode.{LineMode}
use Rattle.line_mode.specs.declared.modes.Judgement.{Judgement}
use Rattle.line_mode.specs.Gaps.{said_of_gap, said_of_judging}
use Rattle.port_state.specs.declared.Device.{Device}
use Rattle.port_state.specs.declared.Reply.{Reply}
use Rattle.port_state.specs.declared.State.{State}
use Rattle.port_state.specs.declared.rounds.Round.{Round}
use Rattle.port_state.specs.declared.plain_record.PlainRecord.{PlainRecord}
use Rattle.port_state.specs.declared.plain_record.ReaderNumbers.{ReaderNumbers}
use Rattle.port_state.specs.declared.plain_record.OutcomeNumbers.{OutcomeNumbers}
use Rattle.port_state.specs.declared.Lasting.{Lasting}
use Rattle.port_state.specs.declared.Talk.{Talk}
use Rattle.port_state.specs.declared.NextPages.{NextPages}
use Rattle.port_state.specs.declared.Link.{Link}
use Rattle.port_state.specs.Memory.{Outcome, Due, Meets}
use Rattle.port_state.specs.PlainRecords.{device_of}
use Rattle.port_step.specs.declared.events.Event.{Event}

-- The one premise here: an ability's number is a byte, by its type. `ability_is_byte` asks it of an answer; this asks it of what resolving came to.
abbrev pub resolved_is_byte : Resolution → Bool
resolved_is_byte (Err refused) = true
resolved_is_byte (Ok settled) = is_byte settled.ability

-- A contract `result ≡ ..` has at most one result. This is true of every type, since both are the same as what the definition has.
abbrev pub Single : (A : Type 0) → Type 0
Single A = (first second due : A) → first ≡ due → second ≡ due → first ≡ second

-- Of a result the contracts of public functions have five forms, `result ≡ ..`, `said result ≡ ..`, `said_count result ≡ ..`, `said_of_judging result ≡ ..` and `Meets result ..`, and of lent memory two, `x.new ≡ ..`, x a lent list,
-- number, device or record, and, of a record of numbers that an event has changed, `device_of x.new ≡ ..`; `tools/contract-forms` checks that there is no other.
pub record NoSecondAnswer : Type 0 where
  -- What a contract says outright: a number, yes or no, a lent list afterwards; a mode, and whether a number names one; what a gap is; what an edge brings to a
  -- reader; what reading a capture brings; what resolving comes to; a device.
  pub number : Single ℕ
  pub test : Single Bool
  pub list : Single (List ℕ)
  pub mode : Single LineMode
  pub found : Single (Option LineMode)
  pub judgement : Single Judgement
  pub step : Single Step
  pub read : Single ReadOutcome
  pub resolved : Single Resolution
  pub device : Single Device
  -- So it is with an event, and with a device as numbers: its record, the numbers of a reader and of an outcome, and what numbers in a record mean.
  pub event : Single Event
  pub plain_record : Single PlainRecord
  pub reader_numbers_law : Single ReaderNumbers
  pub outcome_numbers_law : Single OutcomeNumbers
  pub lasting : Single Lasting
  pub talk : Single Talk
  pub next_pages : Single NextPages
  pub link : Single Link
  pub outcome : Single Outcome
  pub state : Single State
  pub round : Single Round
  pub reader : Single Reader
  pub refusal : Single Refusal
  -- Of a record that an event has changed only the device that it means is fixed, not its numbers: one that is not looked at may be any, and one may stand for another that means the
  -- same (yes is any number but 0). 01: "exceptions are listed in docs/ and argued" (docs/DECISIONS.md, section Request 14); no answer tells such records apart (`LentDevice`, meaning_alone).
  pub meant : (first second : PlainRecord) (due : Device) → device_of first ≡ due → device_of second ≡ due → device_of first ≡ device_of second
  -- An answer of which a contract says what it says.
  pub answer : (first second : Answer) (due : Said) → ability_is_byte first ≡ true → ability_is_byte second ≡ true → said first ≡ due → said second ≡ due → first ≡ second
  -- A reply that meets what is due: its answer and its device.
  pub reply : (first second : Reply) (due : Due) → ability_is_byte first.answer ≡ true → ability_is_byte second.answer ≡ true
      → Meets first due → Meets second due → first ≡ second
  -- What resolving comes to, how an attempt ends, what is heard of an edge, what judging and counting come to and what a gap is are told, each, by what is said of it;
  pub told_resolution : (first second : Resolution) → resolved_is_byte first ≡ true → resolved_is_byte second ≡ true → said_of first ≡ said_of second → first ≡ second
  pub told_ending : (first second : Ending) → said_of_ending first ≡ said_of_ending second → first ≡ second
  pub told_heard : (first second : Heard) → said_of_heard first ≡ said_of_heard second → first ≡ second
  pub told_judging : (first second : Result Judgement Refusal) → said_of_judging first ≡ said_of_judging second → first ≡ second
  pub told_count : (first second : Result ℕ Refusal) → said_count first ≡ said_count second → first ≡ second
  pub told_gap : (first second : Judgement) → said_of_gap first ≡ said_of_gap second → first ≡ second
  -- and a reader's step by what is said of it and the reader that it leaves.
  pub told_step : (first second : Step) → said_of_heard first.heard ≡ said_of_heard second.heard → first.reader ≡ second.reader → first ≡ second
