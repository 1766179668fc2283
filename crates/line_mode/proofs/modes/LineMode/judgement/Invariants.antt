-- So far the gap lies in no window, and it reaches so far into the last one.
use Rattle.line_mode.proofs.Wrapped.{Passed}
use Rattle.line_mode.proofs.modes.LineMode.judgement.Given as goal

abbrev pub invariant-loop-k : goal.invariant-loop-k
invariant-loop-k l = Passed l.self l.k l.gap l.reach
