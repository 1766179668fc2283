-- Each row is its number times the generator: doubled eight times, and added up.
use Rattle.std.proofs.Common.{◌∙◌, lit<}
use Rattle.frame_polynomial.proofs.GeneratorList.{lower_list}
use Rattle.frame_parity.specs.Working.{factor_of}
use Rattle.frame_parity.proofs.RowLaws.{lower_row, first_row, zero_row, doubled, added, rows_are}
use Rattle.frame_parity.proofs.rows.table.Goals as goal

pub row_times_alpha-row_2-requires : goal.row_times_alpha-row_2-requires
unfolding lower_list
row_times_alpha-row_2-requires c = lower_row

pub returns : goal.returns
unfolding lower_list factor_of
returns c =
    let r1 = first_row in
    let r2 = doubled r1 c.row_times_alpha-row_2.ensures (lit< tt) in
    let r4 = doubled r2 c.row_times_alpha-row_4.ensures (lit< tt) in
    let r8 = doubled r4 c.row_times_alpha-row_8.ensures (lit< tt) in
    let r16 = doubled r8 c.row_times_alpha-row_16.ensures (lit< tt) in
    let r32 = doubled r16 c.row_times_alpha-row_32.ensures (lit< tt) in
    let r64 = doubled r32 c.row_times_alpha-row_64.ensures (lit< tt) in
    let r128 = doubled r64 c.row_times_alpha-row_128.ensures (lit< tt) in
    let r256 = doubled r128 c.row_times_alpha-row_256.ensures (lit< tt) in
    let r3 = added r1 r2 c.row_sum-row_3.ensures in
    let r24 = added r8 r16 c.row_sum-row_24.ensures in
    let r192 = added r64 r128 c.row_sum-row_192.ensures in
    let r5 = added r1 r4 c.row_sum.ensures in
    let r6 = added r2 r4 c.row_sum-2.ensures in
    let r7 = added r3 r4 c.row_sum-3.ensures in
    let r40 = added r8 r32 c.row_sum-4.ensures in
    let r48 = added r16 r32 c.row_sum-5.ensures in
    let r56 = added r24 r32 c.row_sum-6.ensures in
    let r320 = added r64 r256 c.row_sum-7.ensures in
    let r384 = added r128 r256 c.row_sum-8.ensures in
    let r448 = added r192 r256 c.row_sum-9.ensures in
    let z = zero_row in
    ◌∙◌ (cc) rows_are
