-- After each reading, so many of them stand at the head of the list.
use Rattle.bench_listing.specs.Listing.{readings_of}
use Rattle.bench_listing.proofs.ReadingLaws.{Taken}
use Rattle.bench_listing.proofs.input.decode.Given as goal

abbrev pub invariant-loop-i : goal.invariant-loop-i
invariant-loop-i l = Taken (readings_of l.bytes) l.initial.readings l.readings l.i
