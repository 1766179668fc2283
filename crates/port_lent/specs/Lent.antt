-- 02, request 14: "Offer the same events on a record that the caller lends and that is changed in place. Each event gives the answer and the record that the copying form gives". The events on a lent
-- `Device` need no definition of their own: their contract cites `step_due`.
use Rattle.std.specs.Prelude.{ℕ, ◌≡◌}
use Rattle.answers.specs.Answers.{packed}
use Rattle.port_state.specs.declared.plain_record.PlainRecord.{PlainRecord}
use Rattle.port_state.specs.Memory.{Due}
use Rattle.port_state.specs.PlainRecords.{device_of}
use Rattle.port_step.specs.Steps.{step_due}
use Rattle.port_step.specs.Runs.{event_of}

-- What an event as three numbers has to bring to the device that a record means.
abbrev pub step_on_record : (kind clock argument : ℕ) → PlainRecord → Due
step_on_record kind clock argument plain = step_due (event_of kind clock argument) (device_of plain)

-- What an event tells: the answer as one number, and the record afterwards.
pub record Told : Type 0 where
  pub answer : ℕ
  pub after : PlainRecord

-- That what is told is what is due: the answer as one number, and a record that means the device afterwards.
pub record Tells (told : Told) (d : Due) : Type 0 where
  pub answer : told.answer ≡ packed d.says
  pub device : device_of told.after ≡ d.device
