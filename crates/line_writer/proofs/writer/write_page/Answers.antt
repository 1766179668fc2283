use Rattle.std.proofs.Common.{sym, ◌∙◌, arith}
use borrow.Author.Rules.{rules}
use Rattle.line_writer.specs.Transitions.{edge_count, transitions}
use Rattle.line_writer.proofs.WritingLoop.{start, room, same_long, turn_yes, turn_no, finish}
use Rattle.line_writer.proofs.writer.write_page.Goals as goal
use Rattle.line_writer.proofs.writer.write_page.Goals.{then-transition_at, else-transition_at}

pub loop-passed-init : goal.loop-passed-init
loop-passed-init c = start _ _ _ _ (search rules)

pub bounds-tail-count : goal.bounds-tail-count
unfolding edge_count transitions
bounds-tail-count c =
    let r = room _ _ _ _ _ _ _ _ c.loop-passed.invariant c.loop-passed-test.true (sym c.transition_at.ensures ∙ c.if-transition_at.true) c.requires.1 in
    let s = same_long _ _ _ _ _ _ _ _ c.loop-passed.invariant c.requires.1 in omega arith

pub loop-passed-preserved : goal.loop-passed-preserved
unfolding edge_count transitions
loop-passed-preserved c =
    (elim c.if-transition_at.branch [
      | then-transition_at w ↦
          let there = sym c.transition_at.ensures ∙ w.if-transition_at.true in
          let r = room _ _ _ _ _ _ _ _ c.loop-passed.invariant c.loop-passed-test.true there c.requires.1 in
          rw (w.tail-is, w.count-is) (turn_yes _ _ _ _ _ _ _ _ c.loop-passed.invariant c.loop-passed-test.true there r)
      | else-transition_at w ↦
          let none = sym c.transition_at.ensures ∙ w.if-transition_at.false in
          rw (w.tail-is, w.count-is) (turn_no _ _ _ _ _ _ _ _ c.loop-passed.invariant c.loop-passed-test.true none)
    ])

pub returns : goal.returns
returns c = finish _ _ _ _ _ _ _ _ c.loop-passed.invariant c.loop-passed-test.false
