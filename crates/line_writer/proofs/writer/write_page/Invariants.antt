-- After each position the readings of the transitions passed stand at the head of the list.
use Rattle.line_writer.proofs.WritingLoop.{Writing}
use Rattle.line_writer.proofs.writer.write_page.Given as goal

abbrev pub invariant-loop-passed : goal.invariant-loop-passed
invariant-loop-passed l = Writing l.mode l.word l.first l.initial.tail l.tail l.clock l.count l.passed
