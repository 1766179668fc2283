use Rattle.std.proofs.Common.{refl, sym, ap, ◌∙◌, arith}
use Rattle.line_reader.specs.declared.reader.Step.{Step}
use Rattle.line_captures.specs.Captures.{is_open}
use Rattle.line_captures.proofs.CaptureLaws.{found, seek_on, sought, drops, stays}
use Rattle.line_captures.proofs.captures.opens_at.Goals as goal

pub returns-then-is_open : goal.returns-then-is_open
returns-then-is_open c =
    found _ _ _ _ _ _ _ c.loop-i.invariant _ (ap (λ (s : Step). s.reader) c.drop_on.ensures) (sym c.is_open.ensures ∙ c.if-is_open.true) (omega arith)

pub loop-i-preserved : goal.loop-i-preserved
loop-i-preserved c =
    let dropped = ap (λ (s : Step). s.reader) (c.drop_on.ensures ∙ drops _ _ _) in
    seek_on _ _ _ _ _ _ _ c.loop-i.invariant _
    (sym (stays _ _ (ap is_open (sym dropped) ∙ sym c.is_open.ensures ∙ c.if-is_open.false)) ∙ ap (λ (s : Step). s.reader) (sym (drops _ _ _))) refl (omega arith)

pub returns : goal.returns
returns c = sought _ _ _ _ _ _ _ c.loop-i.invariant (omega arith)
