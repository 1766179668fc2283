-- A record that is kept from call to call answers as the device that it means.
use Prim.Native.Nat.{ℕ}
use mathlib.Core.Path.{◌≡◌, refl, sym, ap, ap₂, ◌∙◌}
use mathlib.Core.List.{List, [], ◌∷◌, map}
use Rattle.answers.specs.Answers.{packed}
use Rattle.port_state.specs.declared.Device.{Device}
use Rattle.port_state.specs.declared.plain_record.PlainRecord.{PlainRecord}
use Rattle.port_state.specs.Memory.{fresh_device}
use Rattle.port_state.specs.PlainRecords.{device_of, record_of}
use Rattle.port_state.proofs.PlainRecordLaws.{comes_back}
use Rattle.port_step.specs.Steps.{says_to, after_all}
use Rattle.port_step.specs.Runs.{events_of}
use Rattle.port_lent.specs.Lent.{Told}
use Rattle.port_lent.specs.LentDevice.{Served, answers_in, left_by, LentDevice}

-- What a device says to a row of events, as numbers.
abbrev says_of : (cells : List ℕ) → Device → List ℕ
says_of cells d = map packed (says_to d (events_of cells))

answers_meant : (plain : PlainRecord) (cells : List ℕ) (tolds : List Told) → Served plain cells tolds → answers_in tolds ≡ says_of cells (device_of plain)
unfolding Served says_to events_of
answers_meant plain [] [] served = refl
answers_meant plain [] (told ∷ later) served = absurd served
answers_meant plain (kind ∷ []) [] served = refl
answers_meant plain (kind ∷ []) (told ∷ later) served = absurd served
answers_meant plain (kind ∷ clock ∷ []) [] served = refl
answers_meant plain (kind ∷ clock ∷ []) (told ∷ later) served = absurd served
answers_meant plain (kind ∷ clock ∷ argument ∷ rest) [] served = absurd served
answers_meant plain (kind ∷ clock ∷ argument ∷ rest) (told ∷ later) served =
    ap₂ (λ (x : ℕ) (l : List ℕ). x ∷ l) served.0.answer (answers_meant told.after rest later served.1 ∙ ap (says_of rest) served.0.device)

after_meant : (plain : PlainRecord) (cells : List ℕ) (tolds : List Told) → Served plain cells tolds → device_of (left_by plain tolds) ≡ after_all (device_of plain) (events_of cells)
unfolding Served left_by after_all events_of
after_meant plain [] [] served = refl
after_meant plain [] (told ∷ later) served = absurd served
after_meant plain (kind ∷ []) [] served = refl
after_meant plain (kind ∷ []) (told ∷ later) served = absurd served
after_meant plain (kind ∷ clock ∷ []) [] served = refl
after_meant plain (kind ∷ clock ∷ []) (told ∷ later) served = absurd served
after_meant plain (kind ∷ clock ∷ argument ∷ rest) [] served = absurd served
after_meant plain (kind ∷ clock ∷ argument ∷ rest) (told ∷ later) served =
    after_meant told.after rest later served.1 ∙ ap (λ (d : Device). after_all d (events_of rest)) served.0.device

pub lent_device : LentDevice
lent_device =
    record {
      comes_back = comes_back;
      as_a_run = λ cells tolds served. answers_meant (record_of fresh_device) cells tolds served ∙ ap (says_of cells) (comes_back fresh_device);
      from_any = answers_meant;
      device_after = after_meant;
      meaning_alone = λ first second same cells one other served too.
          answers_meant first cells one served ∙ ap (says_of cells) same ∙ sym (answers_meant second cells other too);
    }
