-- 01's worked examples of gaps, computed from the definitions.
use Rattle.std.proofs.Common.{◌≡◌, refl}
use Rattle.answers.specs.Answers.{number, gap_quiet, gap_unfit}
use Rattle.line_mode.specs.Modes.{mode_of}
use Rattle.line_mode.specs.Gaps.{judgement_of, judged}

-- "HSM: 20 unfit, 21 one, 39 one, 40 unfit, 129 four, 130 quiet."
pub record GapExamples : Type 0 where
  pub below_one : judged 0 20 ≡ gap_unfit
  pub least_one : judged 0 21 ≡ number 1
  pub most_one : judged 0 39 ≡ number 1
  pub above_one : judged 0 40 ≡ gap_unfit
  pub most_four : judged 0 129 ≡ number 4
  pub least_quiet : judged 0 130 ≡ gap_quiet

pub gap_examples : GapExamples
unfolding judged judgement_of mode_of
gap_examples =
    record { below_one = refl; least_one = refl; most_one = refl; above_one = refl; most_four = refl; least_quiet = refl }
