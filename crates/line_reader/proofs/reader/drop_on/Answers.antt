use Rattle.std.proofs.Common.{◌∙◌}
use Rattle.line_reader.proofs.StepLaws.{not_quiet}
use Rattle.line_reader.proofs.reader.drop_on.Goals as goal

pub returns-then-gap-mode : goal.returns-then-gap-mode
returns-then-gap-mode c = c.dropped.ensures ∙ not_quiet _ _ _ (rw c.time_between-gap.ensures at c.if-gap-mode.true)
