-- Each return is the law of its kind of position.
use Rattle.std.proofs.Common.{ℕ, ◌-◌, ◌/◌, ◌^◌, sym, ap, ◌∙◌, arith}
use Rattle.page_word.specs.Word.{odd}
use Rattle.line_writer.proofs.PagePattern.{at_start, at_clock, at_data, at_check, at_156}
use Rattle.line_writer.proofs.transitions.transition_at.Goals as goal

pub returns-then-position-le26 : goal.returns-then-position-le26
returns-then-position-le26 c =
    c.bit_at.ensures ∙ ap (λ (x : ℕ). odd (x / 2 ^ c.args.position)) c.start.ensures ∙ sym (at_start _ _ _ c.if-position-le26.true)

pub returns-then-position-eq1 : goal.returns-then-position-eq1
returns-then-position-eq1 c = sym (at_clock _ _ _ c.if-position-le26.false (omega arith) c.if-position-eq1.true)

pub returns-then-position-le122 : goal.returns-then-position-le122
returns-then-position-le122 c =
    c.bit_at-then-position-le122.ensures ∙ sym (at_data _ _ _ c.if-position-le26.false c.if-position-le122.true c.if-position-eq1.false)

pub returns-then-position-le154 : goal.returns-then-position-le154
returns-then-position-le154 c =
    c.bit_at-then-position-le154.ensures
    ∙ ap (λ (x : ℕ). odd (x / 2 ^ ((154 - c.args.position) / 2))) c.requires.0
    ∙ sym (at_check _ _ _ c.if-position-le122.false c.if-position-le154.true c.if-position-eq1.false)

pub returns : goal.returns
returns c = sym (at_156 _ _ _ c.if-position-le154.false (omega arith) c.if-position-eq1.false)
