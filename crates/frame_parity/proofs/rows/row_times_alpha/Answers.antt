use Rattle.std.proofs.Common.{rules, subst, sym, ◌<◌, get_or}
use Rattle.polynomials.specs.Polynomials.{scaled}
use Rattle.frame_field.specs.Field.{symbols, alpha}
use Rattle.frame_parity.specs.Working.{Row}
use Rattle.frame_parity.proofs.FromFn.{filled}
use Rattle.frame_parity.proofs.RowLaws.{row_symbol, scaled_symbol, scaled_row}
use Rattle.frame_parity.proofs.rows.row_times_alpha.Goals as goal

pub returns : goal.returns
returns c =
    let row = scaled_row alpha c.args.row c.requires in
    let e =
    filled _ _ c.from_fn.result (scaled symbols alpha c.args.row) 44
    (λ i y q l called. let small : get_or c.args.row i 0 < 512 = row_symbol c.args.row i c.requires l in rw (scaled_symbol alpha c.args.row c.requires i l) (search rules))
    c.from_fn.ensures.items row.long in
    record { is = e; fit = subst Row (sym e) row }
