-- A cell for each event so far.
use Rattle.std.proofs.Common.{◌≡◌, ◌+◌}
use Rattle.arrayvec.specs.ArrayVec.{array_vec_len}
use Rattle.drive.proofs.lists.run.Given as goal

abbrev pub invariant-loop-answer : goal.invariant-loop-answer
invariant-loop-answer l = array_vec_len l.answers ≡ array_vec_len l.initial.answers + l.answer-index
