use Rattle.frame_parity.proofs.RegisterLaws.{none_pushed, going, one_pushed, all_pushed}
use Rattle.frame_parity.proofs.register.pushed_by.Goals as goal

pub loop-symbol-init : goal.loop-symbol-init
loop-symbol-init c = none_pushed _ c.requires.0

pub push-next-requires : goal.push-next-requires
push-next-requires c = going _ _ _ _ c.requires.0 c.requires.1 c.loop-symbol.invariant c.loop-symbol-test.true _ c.requires.2

pub loop-symbol-preserved : goal.loop-symbol-preserved
loop-symbol-preserved c = one_pushed _ _ _ _ c.requires.0 c.requires.1 c.loop-symbol.invariant c.loop-symbol-test.true _ c.push-next.ensures

pub returns : goal.returns
returns c = all_pushed _ _ _ _ c.loop-symbol.invariant c.loop-symbol-test.false
