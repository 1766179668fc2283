-- What is left to find is the same after each edge that says nothing.
use Rattle.line_reader.specs.declared.reader.Reader.TheVariants.{Open}
use Rattle.line_captures.proofs.CaptureLaws.{Trying}
use Rattle.line_captures.proofs.captures.first_attempt.Given as goal

abbrev pub invariant-loop-i : goal.invariant-loop-i
invariant-loop-i l = Trying l.mode l.tail l.place (Open l.at l.last l.bits) l.i
