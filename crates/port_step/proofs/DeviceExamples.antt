-- 01, "Proved in a single table": P14, computed.
use mathlib.Core.Path.{◌≡◌, refl}
use Rattle.answers.specs.Answers.{register_value}
use Rattle.port_state.specs.Memory.{due, fresh_device}
use Rattle.port_registers.specs.Registers.{register_of, status_bits, read_due}
use Rattle.port_step.specs.declared.events.Event.TheVariants.{Read}
use Rattle.port_step.specs.Steps.{step_over, step_due}

-- "P14 fresh 7.513 reads 0008", and the device stays fresh.
pub p14 : step_due (Read 0 513) fresh_device ≡ due (register_value 0x0008) fresh_device
unfolding step_over read_due register_of status_bits
p14 = refl
