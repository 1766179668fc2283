use Rattle.bench_listing.specs.Listing.{last_line}
use Rattle.bench_listing.proofs.TextLaws.{adds_then}
use Rattle.bench_listing.proofs.text.Text.put_last_line.Goals as goal

pub returns : goal.returns
unfolding last_line
returns c =
    adds_then (adds_then (adds_then (adds_then c.put.ensures c.put_decimal.ensures.text) c.put-2.ensures) c.put_decimal-2.ensures.text) c.put-3.ensures
