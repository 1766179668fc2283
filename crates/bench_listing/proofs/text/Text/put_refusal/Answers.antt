use Rattle.std.proofs.Common.{ap, ◌∙◌}
use Rattle.bench_listing.specs.Words.{decimal}
use Rattle.bench_listing.specs.Listing.{refused_line}
use Rattle.bench_listing.proofs.TextLaws.{adds_same, adds_then}
use Rattle.bench_listing.proofs.text.Text.put_refusal.Goals as goal

pub returns : goal.returns
unfolding refused_line
returns c =
    adds_then (adds_then c.put.ensures (adds_same c.put_decimal.ensures.text (ap decimal (c.from-2.ensures ∙ c.from.ensures)))) c.put-2.ensures
