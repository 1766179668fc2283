-- The register stands where it has been put: over the first 44 symbols of the list.
use Rattle.std.proofs.Common.{ap, sym, ◌∙◌, ◌++◌, ℕ, drop, arith}
use Rattle.answers.specs.Answers.{Leaves}
use Rattle.frame_parity.specs.Taking.{register_of}
use Rattle.frame_parity.proofs.Answering.{front, finish_good, given}
use Rattle.frame_parity.proofs.finishing.finish.Goals as goal

pub returns-clause-leaves : goal.returns-clause-leaves
returns-clause-leaves c =
    let good = finish_good c.args.state.now c.args.parity.now (omega arith) (omega arith) (omega arith)
    (sym c.if-not-all_symbols.false ∙ c.all_symbols.ensures) in
    c.put_first.ensures
    ∙ ap (λ (n : ℕ). register_of c.args.state.now ++ drop n c.args.parity.now) (front c.args.state.now (omega arith))
    ∙ given c.args.state.now c.args.parity.now (omega arith)
    ∙ sym (ap (λ (l : Leaves). l.list) good)
