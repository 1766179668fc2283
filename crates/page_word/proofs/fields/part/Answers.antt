use Rattle.std.proofs.Common.{arith}
use Rattle.page_word.specs.Fields.{part}
use Rattle.page_word.proofs.FieldLaws.{one_shifted}
use Rattle.page_word.proofs.fields.part.Goals as goal

pub returns : goal.returns
unfolding part
returns c = rw (one_shifted c.args.bits (omega arith))
