use Rattle.bench_listing.specs.Listing.{first_line}
use Rattle.bench_listing.proofs.TextLaws.{adds_then}
use Rattle.bench_listing.proofs.text.Text.put_first_line.Goals as goal

pub returns-clause-text : goal.returns-clause-text
unfolding first_line
returns-clause-text c =
    adds_then (adds_then (adds_then (adds_then c.put.ensures c.put_mode.ensures.text) c.put-2.ensures) c.put_decimal.ensures.text) c.put-3.ensures
