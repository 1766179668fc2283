-- The cells that are left get fewer with each call, and each call's answer is at most three times as long as the call.
use Rattle.std.proofs.Common.{◌+◌, ◌*◌, ◌≤◌, length}
use Rattle.arrayvec.specs.ArrayVec.{array_vec_len}
use Rattle.drive.proofs.calls.answer_all.Given as goal

abbrev pub invariant-loop-calls : goal.invariant-loop-calls
invariant-loop-calls l =
    array_vec_len l.answers + 3 * length l.calls ≤ array_vec_len l.initial.answers + 3 * length l.initial.calls

abbrev pub decreases-loop-calls : goal.decreases-loop-calls
decreases-loop-calls l = length l.calls
