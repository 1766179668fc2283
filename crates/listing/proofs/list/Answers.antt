-- The output has room for every listing, so the call counts its bytes.
use Rattle.std.proofs.Common.{◌≡◌, length, length-take-le, sym, arith}
use Rattle.bench_listing.specs.Listing.{listing}
use Rattle.bench_listing.proofs.ListingLength.{counted}
use Rattle.listing.proofs.list.Goals as goal

pub unwrap-requires : goal.unwrap-requires
unwrap-requires c = rw (counted _ _ _ _ _ (omega arith) (omega arith) c.list.ensures.says c.list.ensures.output).told

pub returns : goal.returns
returns c =
    let found = counted _ _ _ _ _ (omega arith) (omega arith) c.list.ensures.says c.list.ensures.output in
    let told = found.told in
    let fits = found.fits in
    let as_long : c.unwrap.result ≡ length (listing c.args.input.now) = cc in
    record { prefix_len = (omega arith, sym (length-take-le _ _ (omega arith))); output_after = rw as_long found.text }
