-- After each attempt its line stands behind those before it; what is left of the capture falls.
use Rattle.std.proofs.Common.{◌-◌, length}
use Rattle.bench_listing.proofs.WalkLaws.{Walking}
use Rattle.bench_listing.proofs.capture.put_capture.Given as goal

abbrev pub invariant-loop-attempt : goal.invariant-loop-attempt
invariant-loop-attempt l = Walking l.mode l.capture l.initial.text l.text l.place l.number l.pages

abbrev pub decreases-loop-attempt : goal.decreases-loop-attempt
decreases-loop-attempt l = length l.capture - l.place
