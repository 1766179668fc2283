use Rattle.line_captures.specs.Captures.{attempt}
use Rattle.std.proofs.Common.{sym, ap, ◌∙◌, arith}
use Rattle.line_reader.specs.declared.reader.Step.{Step}
use Rattle.line_captures.proofs.CaptureLaws.{try_first, try_further, holds_numbers, tried, ran_out}
use Rattle.line_captures.proofs.captures.first_attempt.Goals as goal
use Rattle.line_captures.proofs.captures.first_attempt.Goals.{in-Open, in_default-reader}

pub loop-i-init : goal.loop-i-init
loop-i-init c = try_first _ _ _ (omega arith)

pub returns-in-Some : goal.returns-in-Some
returns-in-Some c =
    let brought = c.go_on-heard.ensures in
    ap (attempt c.in-Some.ending) c.next_opens.ensures
    ∙ sym (tried _ _ _ _ _ c.loop-i.invariant _ _ (ap (λ (s : Step). s.reader) brought) (ap (λ (s : Step). s.heard) (sym brought) ∙ c.in-Some.is) (omega arith))

pub loop-i-preserved : goal.loop-i-preserved
loop-i-preserved c =
    elim c.match-reader.branch [
      | in-Open w ↦
          rw (w.at-is, w.bits-is)
          (try_further _ _ _ _ _ _ _ c.loop-i.invariant (omega arith) _ c.go_on-heard.ensures c.in_default.is _ _ _ w.in-Open.is)
      | in_default-reader w ↦
          absurd (holds_numbers _ _ _ _ _ _ _ c.loop-i.invariant (omega arith) _ c.go_on-heard.ensures c.in_default.is w.in_default-reader.not-Open)
    ]

pub returns : goal.returns
returns c = sym (ran_out _ _ _ _ _ c.loop-i.invariant (omega arith))
