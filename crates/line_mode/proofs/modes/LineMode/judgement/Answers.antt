use Rattle.std.proofs.Common.{◌∙◌, arith}
use Rattle.line_mode.proofs.Wrapped.{none_passed, judged, one_passed, beyond}
use Rattle.line_mode.proofs.modes.LineMode.judgement.Goals as goal

pub loop-k-init : goal.loop-k-init
loop-k-init c = none_passed _ _ _ (omega arith) (omega arith) (omega arith)

pub returns-then-reach-width : goal.returns-then-reach-width
returns-then-reach-width c = judged _ _ _ _ c.wrapping_sub_u64-reach.result c.loop-k.invariant (omega arith) (omega arith) (omega arith) (omega arith) (omega arith) (omega arith) (omega arith)

pub loop-k-preserved : goal.loop-k-preserved
loop-k-preserved c = one_passed _ _ _ _ _ c.loop-k.invariant (omega arith) (omega arith) (omega arith) (omega arith) (omega arith) (omega arith)

pub returns : goal.returns
returns c = c.off_windows.ensures ∙ beyond _ _ _ _ c.loop-k.invariant (omega arith)
