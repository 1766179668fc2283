-- 01's worked examples of the line, computed from the definitions.
use Rattle.std.proofs.Common.{◌≡◌, ◌^◌, get_or, refl}
use mathlib.Core.Bool.{xor}
use Rattle.page_check_bits.specs.CheckBits.{check_list, remainder}
use Rattle.line_mode.specs.Clock.{time_between}
use Rattle.line_mode.specs.Modes.{hsm_mode, lsm_mode}
use Rattle.line_page.specs.Pattern.{is_clock, is_bit, stands_at}
use Rattle.line_writer.specs.Transitions.{sent_bits, has_transition, positions_to, transitions, readings, edge_count}

-- "P5 readings 4294967290, 24: time 30. P6 zero page, HSM: 81 edges over 4680 ns. P7 LSM: 86 over 124 800. P8 2^47, HSM: 85 edges."
pub record LineTable : Type 0 where
  pub p5 : time_between 24 4294967290 ≡ 30
  pub p6_edges : edge_count hsm_mode 0 ≡ 81
  pub p6_last : get_or (readings hsm_mode 0 0) 80 0 ≡ 4680
  pub p7_edges : edge_count lsm_mode 0 ≡ 86
  pub p7_last : get_or (readings lsm_mode 0 0) 85 0 ≡ 124800
  pub p8 : edge_count hsm_mode (2 ^ 47) ≡ 85

pub line_table : LineTable
unfolding edge_count readings transitions positions_to has_transition stands_at is_clock is_bit sent_bits check_list remainder xor
line_table = record { p5 = refl; p6_edges = refl; p6_last = refl; p7_edges = refl; p7_last = refl; p8 = refl }
