-- Worked examples of reading, computed from the definitions.
use Rattle.std.specs.Prelude.{Ok, Err}
use mathlib.Core.Path.{◌≡◌, refl}
use mathlib.Core.Bool.{xor}
use mathlib.Core.List.{[], ◌∷◌}
use Rattle.page_check_bits.specs.CheckBits.{check_bits, check_list, remainder, agrees}
use Rattle.line_reader.specs.declared.endings.Broken.TheVariants.{Gap, Cut}
use Rattle.line_reader.specs.declared.reader.Reader.TheVariants.{Fresh}
use Rattle.line_mode.specs.Modes.{hsm_mode, lsm_mode}
use Rattle.line_mode.specs.Gaps.{judgement_of}
use Rattle.line_writer.specs.Transitions.{sent_bits, has_transition, positions_to, transitions, readings}
use Rattle.line_page.specs.Pattern.{is_clock, is_bit, stands_at}
use Rattle.line_reader.specs.Pattern.{asks}
use Rattle.line_reader.specs.Reading.{arrives, goes_on, drops_on, edge_of}
use Rattle.line_captures.specs.Captures.{opens_at, attempt_of, attempt}

pub record ReadExamples : Type 0 where
  pub zero_high : attempt_of hsm_mode Fresh (readings hsm_mode 0 4294967290) 0 ≡ attempt (Ok 0) 81
  pub word_low : attempt_of lsm_mode Fresh (readings lsm_mode 0x850001 7) 0 ≡ attempt (Ok 0x850001) 98
  pub cut : attempt_of hsm_mode Fresh (0 ∷ 30 ∷ 60 ∷ []) 0 ≡ attempt (Err Cut) 3
  pub gap : attempt_of hsm_mode Fresh (0 ∷ 30 ∷ 60 ∷ 90 ∷ 300 ∷ []) 0 ≡ attempt (Err Gap) 4

pub read_examples : ReadExamples
unfolding readings transitions positions_to has_transition sent_bits check_bits check_list remainder agrees xor judgement_of stands_at is_bit is_clock asks arrives goes_on drops_on edge_of opens_at attempt_of
read_examples = record { zero_high = refl; word_low = refl; cut = refl; gap = refl }
