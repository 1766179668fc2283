use Rattle.std.proofs.Common.{arith}
use Rattle.frame_parity.proofs.RegisterLaws.{push_more, push_done}
use Rattle.frame_parity.proofs.register.push.Goals as goal

pub loop-at-preserved : goal.loop-at-preserved
loop-at-preserved c = push_more _ _ _ _ _ c.requires c.loop-at.invariant (omega arith)

pub returns : goal.returns
returns c = push_done _ _ _ _ _ c.requires c.loop-at.invariant (omega arith) (omega arith)
