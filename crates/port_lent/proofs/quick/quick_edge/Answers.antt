-- An edge that is taken is the reader's step, whatever the reader.
use Rattle.std.proofs.Common.{refl}
use Rattle.line_mode.specs.Modes.{lsm_mode}
use Rattle.line_reader.specs.Reading.{edge_of}
use Rattle.port_lent.proofs.QuickLaws.{steps_by, edge_taken}
use Rattle.port_lent.proofs.quick.quick_edge.Goals as goal

pub returns-in-Fresh : goal.returns-in-Fresh
unfolding edge_of
returns-in-Fresh g c =
    edge_taken _ _ _ _ _ c.from.ensures c.is_set.ensures c.takes_edges.ensures _ _ _ c.if-not-takes_edges.false c.from-2.ensures
    (steps_by _ _ lsm_mode _ _ c.in-Fresh.is refl c.open_on.ensures)
    (c.moved.ensures _ _)

pub returns-in-Open : goal.returns-in-Open
returns-in-Open g c =
    edge_taken _ _ _ _ _ c.from.ensures c.is_set.ensures c.takes_edges.ensures _ _ _ c.if-not-takes_edges.false c.from-2.ensures
    (steps_by _ _ _ _ _ c.in-Open.is c.lsm.ensures c.go_on.ensures)
    (c.moved-in-Open.ensures _ _)

pub returns-in-Dropping : goal.returns-in-Dropping
returns-in-Dropping g c =
    edge_taken _ _ _ _ _ c.from.ensures c.is_set.ensures c.takes_edges.ensures _ _ _ c.if-not-takes_edges.false c.from-2.ensures
    (steps_by _ _ _ _ _ c.in-Dropping.is c.lsm-in-Dropping.ensures c.drop_on.ensures)
    (c.moved-in-Dropping.ensures _ _)
