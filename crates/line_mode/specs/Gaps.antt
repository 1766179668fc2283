-- 01, "The line": judging a gap, over the numbers of any mode.
use Rattle.std.specs.Prelude.{ℕ, ◌+◌, ◌*◌, Bool, ◌&&◌, if◌then◌else◌, Result, Ok, Err}
use Rattle.answers.specs.Choices.{◌≤?◌}
use Rattle.answers.specs.Answers.{Said, refused, number, gap_quiet, gap_unfit}
use Rattle.answers.specs.declared.Refusal.{Refusal}
use Rattle.answers.specs.declared.Refusal.TheVariants.{Mode}
use Rattle.line_mode.specs.declared.modes.LineMode.{LineMode}
use Rattle.line_mode.specs.declared.modes.Judgement.{Judgement}
use Rattle.line_mode.specs.declared.modes.Judgement.TheVariants.{Positions, Quiet, Unfit}
use Rattle.line_mode.specs.Modes.{mode_of, by_mode}

-- "it lies within k·spacing ± tolerance, ends included"
abbrev pub within : (mode : LineMode) (k gap : ℕ) → Bool
within mode k gap = k * mode.spacing ≤? gap + mode.tolerance && gap ≤? k * mode.spacing + mode.tolerance

-- "A gap g counts as k positions (k = 1 to 4) when it lies within k·spacing ± tolerance, ends included; it is quiet at the quiet limit or
-- more; else it is unfit." In 01's two modes no windows meet. Where they do, the lowest k counts, and any k before quiet.
unfoldable pub judgement_of : (mode : LineMode) (gap : ℕ) → Judgement
judgement_of mode gap =
    if within mode 1 gap then Positions 1
    else if within mode 2 gap then Positions 2
    else if within mode 3 gap then Positions 3
    else if within mode 4 gap then Positions 4
    else if mode.quiet ≤? gap then Quiet
    else Unfit

-- The number and value that each judgement says.
abbrev pub said_of_gap : Judgement → Said
said_of_gap (Positions k) = number k
said_of_gap Quiet = gap_quiet
said_of_gap Unfit = gap_unfit

-- What the judge call says, which judges or refuses.
abbrev pub said_of_judging : Result Judgement Refusal → Said
said_of_judging (Ok judgement) = said_of_gap judgement
said_of_judging (Err refusal) = refused refusal

-- The judge call.
unfoldable pub judged : (mode gap : ℕ) → Said
judged mode gap = by_mode (mode_of mode) (λ m. said_of_gap (judgement_of m gap)) (refused Mode)
