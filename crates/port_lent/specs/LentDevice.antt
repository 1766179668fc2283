-- 02, request 14: "Each event gives the answer and the record that the copying form gives; the thin new layer is proved equal to it and adds no rules." What that comes to for a caller that
-- keeps a record from call to call.
use Rattle.std.specs.Prelude.{ℕ, ◌≡◌, List, [], ◌∷◌, map}
use Rattle.answers.specs.Answers.{packed}
use Rattle.port_state.specs.declared.Device.{Device}
use Rattle.port_state.specs.declared.plain_record.PlainRecord.{PlainRecord}
use Rattle.port_state.specs.Memory.{fresh_device}
use Rattle.port_state.specs.PlainRecords.{device_of, record_of}
use Rattle.port_step.specs.Steps.{says_to, after_all}
use Rattle.port_step.specs.Runs.{events_of, answers_to}
use Rattle.port_lent.specs.Lent.{Told, step_on_record, Tells}

-- That this is what calls on one record have told, in order: one call for each event of a row, three cells each, and each told as the contract of `maststep_step` has it of the record
-- that the call before has left. Cells after the last whole event make no call; with one told too few or too many it does not hold.
unfoldable pub Served : PlainRecord → (cells : List ℕ) → List Told → Type 0
Served plain [] [] = Unit {0}
Served plain [] (told ∷ later) = ⊥
Served plain (kind ∷ []) [] = Unit {0}
Served plain (kind ∷ []) (told ∷ later) = ⊥
Served plain (kind ∷ clock ∷ []) [] = Unit {0}
Served plain (kind ∷ clock ∷ []) (told ∷ later) = ⊥
Served plain (kind ∷ clock ∷ argument ∷ rest) [] = ⊥
Served plain (kind ∷ clock ∷ argument ∷ rest) (told ∷ later) =
    Tells told (step_on_record kind clock argument plain) × Served told.after rest later

-- The answers,
abbrev pub answers_in : List Told → List ℕ
answers_in tolds = map (λ (t : Told). t.answer) tolds

-- and the record that is left.
unfoldable pub left_by : PlainRecord → List Told → PlainRecord
left_by plain [] = plain
left_by plain (told ∷ later) = left_by told.after later

pub record LentDevice : Type 0 where
  -- "the law that a device comes back as itself" (fixed interfaces): nothing of a device is lost in its record.
  pub comes_back : (d : Device) → device_of (record_of d) ≡ d
  -- "`maststep_step` answers as the same event of `maststep_run` does" (fixed interfaces): from the record that `maststep_fresh` leaves, the answers are those that
  -- `maststep_run` gives,
  pub as_a_run : (cells : List ℕ) (tolds : List Told) → Served (record_of fresh_device) cells tolds → answers_in tolds ≡ answers_to cells
  -- from a record of any content they are those of the device that it means,
  pub from_any : (plain : PlainRecord) (cells : List ℕ) (tolds : List Told) → Served plain cells tolds
      → answers_in tolds ≡ map packed (says_to (device_of plain) (events_of cells))
  -- and the record that the calls leave means what that device has become after these events.
  pub device_after : (plain : PlainRecord) (cells : List ℕ) (tolds : List Told) → Served plain cells tolds
      → device_of (left_by plain tolds) ≡ after_all (device_of plain) (events_of cells)
  -- So no answer tells apart two records that mean the same device, whatever numbers stand in them.
  pub meaning_alone : (first second : PlainRecord) → device_of first ≡ device_of second → (cells : List ℕ) (one other : List Told)
      → Served first cells one → Served second cells other → answers_in one ≡ answers_in other
