use Rattle.std.proofs.Common.{rules, ◌∙◌, sym, ap, length, ◌≡◌}
use Rattle.polynomials.specs.Polynomials.{plus}
use Rattle.polynomials.proofs.Sums.{plus_at}
use Rattle.frame_field.specs.Field.{symbols}
use Rattle.frame_field.proofs.ExclusiveOr.{symbol_sums}
use Rattle.frame_parity.proofs.FromFn.{filled}
use Rattle.frame_parity.proofs.RowLaws.{sum_long}
use Rattle.frame_parity.proofs.rows.row_sum.Goals as goal

pub returns : goal.returns
returns c = λ h k.
    let same : length c.args.one ≡ length c.args.other = h ∙ sym k in
    let long = sum_long c.args.one c.args.other h k in
    let e = filled _ _ c.from_fn.result (plus symbols c.args.one c.args.other) 44 (λ i y q l called. rw (plus_at symbol_sums c.args.one c.args.other i same) (search rules)) c.from_fn.ensures.items long in
    record { is = e; long = ap length e ∙ long }
