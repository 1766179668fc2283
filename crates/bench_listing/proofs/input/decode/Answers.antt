use Rattle.std.proofs.Common.{sym, ◌∙◌, arith}
use Rattle.bench_listing.proofs.ReadingLaws.{as_many, read_at, none_taken, one_taken, decoded}
use Rattle.bench_listing.proofs.input.decode.Goals as goal

pub loop-i-init : goal.loop-i-init
loop-i-init c = none_taken _ _

pub loop-i-preserved : goal.loop-i-preserved
loop-i-preserved c =
    let cut = c.as_chunks.ensures.front in
    let many = as_many _ _ cut in
    rw (c.from_le_bytes.ensures ∙ sym (read_at _ _ cut _ (omega arith)))
    (one_taken _ _ _ _ c.loop-i.invariant (omega arith) (omega arith))

pub returns-clause-contents : goal.returns-clause-contents
returns-clause-contents c = (decoded _ _ _ _ _ c.as_chunks.ensures.front c.loop-i.invariant (omega arith) (omega arith)).contents

pub returns-clause-count : goal.returns-clause-count
returns-clause-count c = (decoded _ _ _ _ _ c.as_chunks.ensures.front c.loop-i.invariant (omega arith) (omega arith)).size
