-- Each arm is the law of its kind of position, and where no arm takes the gap, the pattern does not ask for it.
use Rattle.std.proofs.Common.{◌∙◌, arith}
use borrow.Author.Tests.{lt-leb, ne_eqb}
use Rattle.line_reader.proofs.PatternLaws.{span_asked, after_bit, after_clock_law, after_155, after_end}
use Rattle.line_reader.proofs.StepLaws.{wrong, in_start, at_bit, at_clock, at_155}
use Rattle.line_reader.proofs.reader.step_on.Goals as goal
use Rattle.line_reader.proofs.reader.step_on.Goals.{in_default-via-in-0-to-26+else-spans, in_default-via-else-at-lt27+else-at-lt155, then-at-eq155+else-k-eq2, else-at-eq155, in_default-3-via-in-0+else-k-eq1, in_default-3-via-in-1+else-k-le2, in_default-3-via-in_default-1}

pub returns-in-0-to-26 : goal.returns-in-0-to-26
returns-in-0-to-26 c =
    c.moved.ensures ∙
    in_start _ _ _ _ _ (record { least = omega arith; most = omega arith }) (omega arith)
    (span_asked _ _ _ _ _ (omega arith) (record { least = omega arith; most = omega arith }) c.start.ensures c.spans.ensures ∙ c.if-spans.true)

pub returns-in-0 : goal.returns-in-0
returns-in-0 c =
    c.moved-in-0.ensures ∙ at_bit _ _ _ _ _ (record { least = omega arith; most = omega arith }) (omega arith) (omega arith) c.in-0.is c.if-k-eq1.true

pub returns-in-1 : goal.returns-in-1
returns-in-1 c =
    (rw c.with_bit.ensures at c.moved-in-1.ensures) ∙
    at_clock _ _ _ _ _ (record { least = omega arith; most = omega arith }) (omega arith) (omega arith) c.in-1.is c.if-k-le2.true

pub returns-in_default-3 : goal.returns-in_default-3
returns-in_default-3 c =
    c.dropped.ensures ∙
    wrong c.args.mode c.args.at c.args.k _ _
    (elim c.in_default-3.branch [
      | in_default-3-via-in-0+else-k-eq1 w ↦
          after_bit _ _ _ (record { least = omega arith; most = omega arith }) (omega arith) (omega arith) w.in-0.is ∙ ne_eqb _ 1 w.if-k-eq1.false
      | in_default-3-via-in-1+else-k-le2 w ↦
          after_clock_law _ _ _ (record { least = omega arith; most = omega arith }) (omega arith) (omega arith) w.in-1.is ∙ lt-leb _ 2 w.if-k-le2.false
      | in_default-3-via-in_default-1 w ↦ absurd (omega arith)
    ])

pub returns-in_default : goal.returns-in_default
returns-in_default c = c.whole.ensures ∙ at_155 _ _ _ _ _ (record { least = omega arith; most = omega arith }) c.if-at-eq155.true c.if-k-eq2.true

pub returns-in_default-2 : goal.returns-in_default-2
returns-in_default-2 c =
    c.dropped-in_default-2.ensures ∙
    wrong c.args.mode c.args.at c.args.k _ _
    (elim c.in_default.branch [
      | in_default-via-in-0-to-26+else-spans w ↦
          span_asked _ _ _ _ _ (omega arith) (record { least = omega arith; most = omega arith }) w.start.ensures w.spans.ensures ∙ w.if-spans.false
      | in_default-via-else-at-lt27+else-at-lt155 w ↦
          elim c.if-at-eq155.branch [
            | then-at-eq155+else-k-eq2 v ↦ after_155 _ _ _ (record { least = omega arith; most = omega arith }) v.if-at-eq155.true ∙ ne_eqb _ 2 v.if-k-eq2.false
            | else-at-eq155 v ↦ after_end _ _ _ (record { least = omega arith; most = omega arith }) (omega arith)
          ]
    ])
