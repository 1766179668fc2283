use Rattle.std.proofs.Common.{arith}
use Rattle.port_lent.proofs.RunLoop.{start, same_long, count_events, turn, finish}
use Rattle.port_lent.proofs.runs.answer_all.Goals as goal

pub loop-taken-init : goal.loop-taken-init
loop-taken-init c = start _ _ _ c.fresh_record-plain.ensures

pub bounds-answers-taken : goal.bounds-answers-taken
bounds-answers-taken c =
    let s = same_long _ _ _ _ _ c.loop-taken.invariant c.requires in
    let e = count_events c.args.events.now in omega arith

pub loop-taken-preserved : goal.loop-taken-preserved
loop-taken-preserved c =
    turn _ _ _ _ _ c.loop-taken.invariant (omega arith) _ _ _ c.numbers_at-event.ensures (record { answer = c.take_event.ensures.says; device = c.take_event.ensures.means }) c.requires

pub returns : goal.returns
returns c = finish _ _ _ _ _ c.loop-taken.invariant (omega arith)
