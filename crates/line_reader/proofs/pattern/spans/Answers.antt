use Rattle.std.proofs.Common.{arith}
use Rattle.page_word.proofs.FieldLaws.{one_shifted}
use Rattle.line_reader.proofs.PatternLaws.{two_shifted}
use Rattle.line_reader.proofs.pattern.spans.Goals as goal

pub returns : goal.returns
returns c = rw (two_shifted c.args.k (omega arith), one_shifted c.args.k (omega arith))
