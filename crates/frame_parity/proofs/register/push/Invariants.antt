-- So many places of the register have been worked out.
use Rattle.std.proofs.Common.{◌≡◌, [], ◌∷◌, ◌++◌, take, drop, replicate}
use Rattle.frame_parity.specs.Taking.{register_of, register_after}
use Rattle.frame_parity.proofs.register.push.Given as goal

abbrev pub invariant-loop-at : goal.invariant-loop-at
invariant-loop-at l = l.out ≡ take l.at (register_after (register_of l.register) (l.symbol ∷ [])) ++ drop l.at (replicate 45 0)
