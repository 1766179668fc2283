-- A cell for each reading so far.
use Rattle.std.proofs.Common.{◌≡◌, ◌+◌}
use Rattle.arrayvec.specs.ArrayVec.{array_vec_len}
use Rattle.drive.proofs.lists.edges.Given as goal

abbrev pub invariant-loop-reading : goal.invariant-loop-reading
invariant-loop-reading l = array_vec_len l.answers ≡ array_vec_len l.initial.answers + l.reading-index
