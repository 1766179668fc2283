use Rattle.std.proofs.Common.{ℕ, ◌+◌, Bool, cond, sym, ◌∙◌, ap₂}
use lib.Count.{ones}
use Rattle.line_writer.proofs.EdgeCount.{edge_count_law}
use Rattle.line_writer.proofs.transitions.edge_count.Goals as goal

pub returns-then-mode : goal.returns-then-mode
returns-then-mode c =
    ap₂ (λ (check : ℕ) (slow : Bool). ones c.args.word + ones check + cond slow 86 81) c.requires.1 (sym c.if-mode.true)
    ∙ sym (edge_count_law _ _ c.requires.0)

pub returns-else-mode : goal.returns-else-mode
returns-else-mode c =
    ap₂ (λ (check : ℕ) (slow : Bool). ones c.args.word + ones check + cond slow 86 81) c.requires.1 (sym c.if-mode.false)
    ∙ sym (edge_count_law _ _ c.requires.0)
