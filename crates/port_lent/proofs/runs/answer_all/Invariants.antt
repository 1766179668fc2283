-- After each event its answer stands at the head of the list.
use Rattle.port_lent.proofs.RunLoop.{Running}
use Rattle.port_lent.proofs.runs.answer_all.Given as goal

abbrev pub invariant-loop-taken : goal.invariant-loop-taken
invariant-loop-taken l = Running l.fn.events l.fn.answers l.answers l.plain l.taken
