use Rattle.std.proofs.Common.{sym}
use Rattle.line_reader.proofs.PatternLaws.{counted_small}
use Rattle.line_reader.proofs.reader.go_on.Goals as goal

pub step_on-requires : goal.step_on-requires
step_on-requires c = let s = counted_small _ _ _ (sym c.in-Positions.ensures) in (s.least, s.most)
