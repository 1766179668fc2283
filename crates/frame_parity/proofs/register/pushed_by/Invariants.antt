-- So many symbols of the burst have been pushed.
use Rattle.std.proofs.Common.{◌≡◌, [], ◌∷◌, ◌++◌, take}
use Rattle.frame_parity.specs.Taking.{register_of, register_after}
use Rattle.frame_parity.proofs.register.pushed_by.Given as goal

abbrev pub invariant-loop-symbol : goal.invariant-loop-symbol
invariant-loop-symbol l = l.pushed ≡ register_after (register_of l.initial.pushed) (take l.symbol-index l.burst) ++ (0 ∷ [])
