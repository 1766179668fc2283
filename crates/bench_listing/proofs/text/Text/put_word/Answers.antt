use Rattle.std.proofs.Common.{ap, arith, length}
use Rattle.bench_listing.proofs.NumberLaws.{as_word, hex_length}
use Rattle.bench_listing.proofs.TextLaws.{adds_same}
use Rattle.bench_listing.proofs.text.Text.put_word.Goals as goal

pub put-requires : goal.put-requires
put-requires c =
    let h = c.hex-count.ensures in omega (arith, ap length (as_word c.args.word _ _ h.len h.digits), hex_length c.args.word)

pub returns-clause-text : goal.returns-clause-text
returns-clause-text c = let h = c.hex-count.ensures in adds_same c.put.ensures (as_word c.args.word _ _ h.len h.digits)

pub returns-clause-long : goal.returns-clause-long
returns-clause-long c =
    let h = c.hex-count.ensures in
    omega (arith, c.put.ensures.puts.behind, ap length (as_word c.args.word _ _ h.len h.digits), hex_length c.args.word)
