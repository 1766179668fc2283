-- What is left to find is the same after each edge that opens nothing.
use Rattle.line_reader.specs.declared.reader.Reader.TheVariants.{Dropping}
use Rattle.line_captures.proofs.CaptureLaws.{Seeking}
use Rattle.line_captures.proofs.captures.opens_at.Given as goal

abbrev pub invariant-loop-i : goal.invariant-loop-i
invariant-loop-i l = Seeking l.mode (Dropping l.initial.before) l.tail l.place l.from (Dropping l.before) l.i
