-- What the step by value brings to the device that a record means, with the record of the device afterwards.
use Prim.Native.Nat.{ℕ}
use mathlib.Core.Path.{◌≡◌, ap, ◌∙◌, subst}
use Rattle.answers.specs.Answers.{said, packed}
use Rattle.port_state.specs.declared.Device.{Device}
use Rattle.port_state.specs.declared.Reply.{Reply}
use Rattle.port_state.specs.declared.plain_record.PlainRecord.{PlainRecord}
use Rattle.port_state.specs.Memory.{Meets}
use Rattle.port_state.specs.PlainRecords.{device_of, record_of}
use Rattle.port_state.proofs.PlainRecordLaws.{comes_back}
use Rattle.port_step.specs.declared.events.Event.{Event}
use Rattle.port_step.specs.Steps.{step_due}
use Rattle.port_step.specs.Runs.{event_of}
use Rattle.port_lent.specs.Lent.{step_on_record, Tells}

pub told_due : (plain : PlainRecord) (kind clock argument : ℕ) (d : Device) (e : Event) (r : Reply) (answer : ℕ) (after : PlainRecord) → d ≡ device_of plain
    → e ≡ event_of kind clock argument → Meets r (step_due e d) → answer ≡ packed (said r.answer) → after ≡ record_of r.device
    → Tells (record { answer = answer; after = after }) (step_on_record kind clock argument plain)
told_due plain kind clock argument d e r answer after meant named came told kept =
    record { answer = told ∙ ap packed met.answer; device = ap device_of kept ∙ comes_back r.device ∙ met.device }
  where
    met : Meets r (step_on_record kind clock argument plain)
    met =
        subst (λ (x : Event). Meets r (step_due x (device_of plain))) named (subst (λ (y : Device). Meets r (step_due e y)) meant came)
