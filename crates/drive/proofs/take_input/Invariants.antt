-- No more is read than there is room for; what is left of the room falls.
use Rattle.std.proofs.Common.{◌-◌, ◌≤◌, length}
use Rattle.drive.proofs.take_input.Given as goal

abbrev pub invariant-loop-count : goal.invariant-loop-count
invariant-loop-count g l = l.count ≤ length l.room

abbrev pub decreases-loop-count : goal.decreases-loop-count
decreases-loop-count g l = length l.initial.room - l.count
