use Rattle.std.proofs.Common.{arith, ◌+◌}
use borrow.Author.Rules.{rules}
use Rattle.page_word.specs.Fields.{with_part}
use Rattle.page_word.proofs.FieldLaws.{kept_shifted, placed_shifted, placed_fits, stays_below}
use Rattle.page_word.proofs.fields.with_part.Goals as goal

pub overflow_add-result : goal.overflow_add-result
overflow_add-result c =
    rw (placed_shifted c.args.low c.args.bits c.args.value c.args.word (omega arith))
    (record { fits = placed_fits c.args.low c.args.bits c.args.value c.args.word (omega arith) })

pub overflow_add-result-2 : goal.overflow_add-result-2
unfolding with_part
overflow_add-result-2 c =
    rw (
      kept_shifted (c.args.low + c.args.bits) c.args.word (search rules),
      placed_shifted c.args.low c.args.bits c.args.value c.args.word (omega arith),
    )
    (record { fits = stays_below 64 c.args.low c.args.bits c.args.value c.args.word (omega arith) (search rules) })

pub returns : goal.returns
unfolding with_part
returns c =
    rw (
      kept_shifted (c.args.low + c.args.bits) c.args.word (search rules),
      placed_shifted c.args.low c.args.bits c.args.value c.args.word (omega arith),
    )
