-- 01, "The negotiation (LSM)": "Every event carries a clock reading: edge, tick (with a draw, taken modulo 32), page sent, link report (up or down),
-- register read, register write."
use Rattle.std.specs.Prelude.{ℕ, List, [], ◌∷◌}
use Rattle.answers.specs.Answers.{Said, nothing}
use Rattle.page_resolve.specs.Rates.{rate_order}
use Rattle.port_state.specs.declared.Device.{Device}
use Rattle.port_state.specs.Memory.{Due, due}
use Rattle.port_registers.specs.Registers.{read_due, write_due}
use Rattle.port_timing.specs.declared.profile.Profile.{Profile}
use Rattle.port_timing.specs.Ticks.{low_speed, tick_due}
use Rattle.port_hearing.specs.Edges.{edge_due}
use Rattle.port_timing.specs.Sending.{sent_due, report_due}
use Rattle.port_step.specs.declared.events.Event.{Event}
use Rattle.port_step.specs.declared.events.Event.TheVariants.{Edge, Tick, Sent, Report, Read, Write, Unnamed}

-- One step: what an event has to bring, over a profile's numbers and an ordered list of abilities. (The inhibit numbers are no part of a
-- profile.) "What is not named answers nothing and alters nothing."
unfoldable pub step_over : Profile → (order : List ℕ) → Event → Device → Due
step_over p order (Edge reading) d = edge_due p.mode reading d
step_over p order (Tick reading draw) d = tick_due p reading draw d
step_over p order (Sent reading) d = sent_due order reading d
step_over p order (Report reading up) d = report_due up reading d
step_over p order (Read reading register) d = read_due register d
step_over p order (Write reading register value) d = write_due register value reading d
step_over p order Unnamed d = due nothing d

-- At low speed, with 01's order of abilities.
abbrev pub step_due : Event → Device → Due
step_due e d = step_over low_speed rate_order e d

-- What a device says to a row of events, in order,
unfoldable pub says_to : Device → List Event → List Said
says_to d [] = []
says_to d (e ∷ later) = (step_due e d).says ∷ says_to (step_due e d).device later

-- and the device after them.
unfoldable pub after_all : Device → List Event → Device
after_all d [] = d
after_all d (e ∷ later) = after_all (step_due e d).device later
