use Rattle.std.proofs.Common.{ap, arith, length}
use Rattle.bench_listing.proofs.NumberLaws.{as_decimal, decimal_short}
use Rattle.bench_listing.proofs.TextLaws.{adds_same, adds_short}
use Rattle.bench_listing.proofs.text.Text.put_decimal.Goals as goal

pub put-requires : goal.put-requires
put-requires c =
    let d = c.decimal-count.ensures in
    omega (arith, ap length (as_decimal _ _ _ c.requires.0 d.len d.digits), decimal_short c.args.number)

pub returns-clause-text : goal.returns-clause-text
returns-clause-text c = let d = c.decimal-count.ensures in adds_same c.put.ensures (as_decimal _ _ _ c.requires.0 d.len d.digits)

pub returns-clause-short : goal.returns-clause-short
returns-clause-short c =
    let d = c.decimal-count.ensures in
    adds_short (adds_same c.put.ensures (as_decimal _ _ _ c.requires.0 d.len d.digits)) (decimal_short c.args.number)
