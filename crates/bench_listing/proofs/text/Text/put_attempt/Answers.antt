use Rattle.bench_listing.specs.Listing.{attempt_line}
use Rattle.bench_listing.proofs.TextLaws.{adds_then}
use Rattle.bench_listing.proofs.text.Text.put_attempt.Goals as goal

pub returns-clause-text : goal.returns-clause-text
unfolding attempt_line
returns-clause-text c =
    adds_then (adds_then (adds_then c.put_decimal.ensures.text c.put.ensures) c.put_ending.ensures.text) c.put-2.ensures
