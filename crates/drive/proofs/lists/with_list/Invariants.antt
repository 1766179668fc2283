-- The number of cells, the answer, and so many entries of the list.
use Rattle.std.proofs.Common.{◌≡◌, ◌+◌}
use Rattle.arrayvec.specs.ArrayVec.{array_vec_len}
use Rattle.drive.proofs.lists.with_list.Given as goal

abbrev pub invariant-loop-entry : goal.invariant-loop-entry
invariant-loop-entry g l = array_vec_len l.answers ≡ array_vec_len l.initial.answers + l.entry-index
