-- Each return is a law of what the call says and leaves.
use Rattle.line_writer.proofs.WrittenList.{wide, past, too_few, lends, written}
use Rattle.line_writer.proofs.writer.write_in.Goals as goal
use Rattle.line_writer.proofs.writer.write_in.Goals.{then-length-place-via-then-length-place, then-length-place-via-else-length-place+then-length-place-2}

pub returns-then-word-ge-WIDE-clause-says : goal.returns-then-word-ge-WIDE-clause-says
returns-then-word-ge-WIDE-clause-says c = (wide _ _ c.args.place _ c.args.first c.if-word-ge-WIDE.true).said

pub returns-then-word-ge-WIDE-clause-leaves : goal.returns-then-word-ge-WIDE-clause-leaves
returns-then-word-ge-WIDE-clause-leaves c = (wide c.args.mode _ c.args.place _ c.args.first c.if-word-ge-WIDE.true).left

pub returns-then-length-place-clause-says : goal.returns-then-length-place-clause-says
returns-then-length-place-clause-says c =
    elim c.then-length-place.branch [
      | then-length-place-via-then-length-place w ↦
          (past c.args.mode c.args.list.now c.args.place _ c.args.first c.if-word-ge-WIDE.false w.if-length-place.true).said
      | then-length-place-via-else-length-place+then-length-place-2 w ↦
          (too_few c.args.mode c.args.list.now c.args.place _ c.args.first c.if-word-ge-WIDE.false _ c.edge_count-count.ensures w.if-length-place-2.true).said
    ]

pub returns-then-length-place-clause-leaves : goal.returns-then-length-place-clause-leaves
returns-then-length-place-clause-leaves c =
    elim c.then-length-place.branch [
      | then-length-place-via-then-length-place w ↦
          (past c.args.mode c.args.list.now c.args.place _ c.args.first c.if-word-ge-WIDE.false w.if-length-place.true).left
      | then-length-place-via-else-length-place+then-length-place-2 w ↦
          (too_few c.args.mode c.args.list.now c.args.place _ c.args.first c.if-word-ge-WIDE.false _ c.edge_count-count.ensures w.if-length-place-2.true).left
    ]

pub write_page-requires : goal.write_page-requires
write_page-requires c = (
  c.check_bits-check.ensures,
  lends _ c.args.list.now c.args.place _ 0 c.if-word-ge-WIDE.false _ c.edge_count-count.ensures c.if-length-place-2.false,
)

pub returns-clause-says : goal.returns-clause-says
returns-clause-says c =
    (written _ c.args.list.now c.args.place _ _ c.if-word-ge-WIDE.false _ c.edge_count-count.ensures c.if-length-place-2.false _ c.write_page.ensures).said

pub returns-clause-leaves : goal.returns-clause-leaves
returns-clause-leaves c =
    (written _ c.args.list.now c.args.place _ _ c.if-word-ge-WIDE.false _ c.edge_count-count.ensures c.if-length-place-2.false _ c.write_page.ensures).left
