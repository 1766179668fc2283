-- The register and the count stand where they have been put: over the first 45 entries of the state.
use Rattle.std.proofs.Common.{◌≡◌, ap₂, sym, ◌∙◌, ◌++◌, List, ℕ, length, drop, set, arith}
use lib.Seq.{take_all}
use lib.ListN.{length-set}
use Rattle.frame_parity.proofs.Answering.{stored}
use Rattle.frame_parity.proofs.bursts.take_in.Goals as goal

pub returns : goal.returns
returns c =
    let put = set c.push_all-pushed.result 44 c.args.count in
    let long : length put ≡ 45 = omega (arith, length-set c.push_all-pushed.result 44 c.args.count) in
    c.put_first.ensures
    ∙ ap₂ (λ (l : List ℕ) (n : ℕ). l ++ drop n c.args.state.now) (sym (take_all 45 put (omega arith))) long
    ∙ stored _ _ _ _ _ c.requires c.register_in.ensures c.push_all-pushed.ensures
