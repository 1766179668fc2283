-- 01, "Proved in a single table": "One statement covers P1-P14."
use Rattle.std.specs.Prelude.{◌^◌, ◌≡◌, true, false, get_or}
use Rattle.answers.specs.Answers.{refused, settled_on, register_value}
use Rattle.answers.specs.declared.Refusal.TheVariants.{Tie, None, Roles}
use Rattle.page_check_bits.specs.CheckBits.{check_bits}
use Rattle.page_resolve.specs.Resolving.{resolve_says}
use Rattle.line_mode.specs.Clock.{time_between}
use Rattle.line_mode.specs.Modes.{hsm_mode, lsm_mode}
use Rattle.line_writer.specs.Transitions.{readings, edge_count}
use Rattle.port_state.specs.Memory.{fresh_device}
use Rattle.port_registers.specs.Registers.{read_due}

-- "P1 check of word 0 is 0. P2 of 2^47 is 8005 hex. P3 of 2^46 is 800F. P4 of 2^45 is 801B. P5 readings 4294967290, 24: time 30. P6 zero page, HSM: 81
-- edges over 4680 ns. P7 LSM: 86 over 124 800. P8 2^47, HSM: 85 edges. P9 own 850001, partner A90001 (hex): 1000BASE-T1, slave. P10 851001, A91001:
-- Roles. P11 951001, A90001: master. P12 850001 twice: Tie. P13 450001, A90001: None. P14 fresh 7.513 reads 0008."
-- (A page whose first reading is 0 takes as long as its last reading says.)
pub record Table : Type 0 where
  pub p1 : check_bits 0 ≡ 0
  pub p2 : check_bits (2 ^ 47) ≡ 0x8005
  pub p3 : check_bits (2 ^ 46) ≡ 0x800F
  pub p4 : check_bits (2 ^ 45) ≡ 0x801B
  pub p5 : time_between 24 4294967290 ≡ 30
  pub p6 : (edge_count hsm_mode 0 ≡ 81) × (get_or (readings hsm_mode 0 0) 80 0 ≡ 4680)
  pub p7 : (edge_count lsm_mode 0 ≡ 86) × (get_or (readings lsm_mode 0 0) 85 0 ≡ 124800)
  pub p8 : edge_count hsm_mode (2 ^ 47) ≡ 85
  pub p9 : resolve_says 0x850001 0xA90001 ≡ settled_on 2 false
  pub p10 : resolve_says 0x851001 0xA91001 ≡ refused Roles
  pub p11 : resolve_says 0x951001 0xA90001 ≡ settled_on 2 true
  pub p12 : resolve_says 0x850001 0x850001 ≡ refused Tie
  pub p13 : resolve_says 0x450001 0xA90001 ≡ refused None
  pub p14 : (read_due 513 fresh_device).says ≡ register_value 0x0008
