-- The events that leave a device in Ability, Ack or Complete where it is, and take no edge.
use Rattle.std.specs.Prelude.{Option, Some, None}
use Prim.Native.Nat.{ℕ}
use mathlib.Core.Path.{◌≡◌, refl, sym, ◌∙◌}
use mathlib.Core.Bool.{Bool, true, false, cond, not, false≢true}
use mathlib.Core.List.{[]}
use lib.Dec.{eqb}
use Rattle.answers.specs.Answers.{nothing}
use Rattle.port_state.specs.declared.State.{State}
use Rattle.port_state.specs.declared.State.TheVariants.{Off, Break, Ability, Ack, Complete, CheckLink, Up}
use Rattle.port_state.specs.declared.Device.{Device}
use Rattle.port_state.specs.Memory.{Due, due, is_talking}
use Rattle.port_state.specs.Changes.{with_state}
use Rattle.port_registers.specs.declared.Bank.TheVariants as bank
use Rattle.port_registers.specs.declared.Register.{Register}
use Rattle.port_registers.specs.declared.Register.TheVariants.{Control, Status, Part}
use Rattle.port_registers.specs.Registers.{register_of, read_at, read_due, write_at, write_due}
use Rattle.port_registers.proofs.RegisterNumbers.{is_control, control_number}
use Rattle.port_timing.specs.Ticks.{low_speed, may_order, orders, is_lost, talks, tick_in, tick_due}
use Rattle.port_timing.specs.Sending.{report_in, report_due}
use Rattle.port_step.specs.declared.events.Event.{Event}
use Rattle.port_step.specs.declared.events.Event.TheVariants.{Edge, Tick, Sent, Report, Read, Write, Unnamed}
use Rattle.port_step.specs.Steps.{step_over, step_due}
use Rattle.promises.specs.AtTheDevice.{taken_of, comes_between}

-- What is due leaves the device in this state.
record Stays (s : State) (x : Due) : Type 0 where
  there : x.device.state ≡ s

stays : {s : State} {x : Due} → x.device.state ≡ s → Stays s x
stays e = record { there = e }

either : {s : State} {x y : Due} (t : Bool) → Stays s x → Stays s y → Stays s (cond t x y)
either true a b = a
either false a b = b

order_stays : (reading word : ℕ) (d : Device) → Stays d.state (orders low_speed reading word d)
unfolding orders
order_stays reading word d = either (may_order low_speed reading d.link) (stays refl) (stays refl)

pub turned : (t : Bool) → not t ≡ true → t ≡ false
turned true h = sym h
turned false h = refl

talk_stays : (reading word : ℕ) (d : Device) → is_lost low_speed reading d.link ≡ false → Stays d.state (talks low_speed reading word d)
unfolding talks
talk_stays reading word d near = rw near (order_stays reading word d)

tick_in_law : (s : State) (reading draw : ℕ) (d : Device) → is_talking s ≡ true → is_lost low_speed reading d.link ≡ false
    → Stays s (tick_in s low_speed reading draw (with_state s d))
tick_in_law Off reading draw d h near = absurd (false≢true h)
tick_in_law Break reading draw d h near = absurd (false≢true h)
tick_in_law Ability reading draw d h near = talk_stays reading _ (with_state Ability d) near
tick_in_law Ack reading draw d h near = talk_stays reading _ (with_state Ack d) near
tick_in_law Complete reading draw d h near = talk_stays reading _ (with_state Complete d) near
tick_in_law CheckLink reading draw d h near = absurd (false≢true h)
tick_in_law Up reading draw d h near = absurd (false≢true h)

tick_stays : (reading draw : ℕ) (d : Device) → is_talking d.state ≡ true → is_lost low_speed reading d.link ≡ false
    → Stays d.state (tick_due low_speed reading draw d)
unfolding tick_due
tick_stays reading draw d h near = tick_in_law d.state reading draw d h near

report_in_law : (s : State) (up : Bool) (reading : ℕ) (d : Device) → is_talking s ≡ true → Stays s (due nothing (report_in s up reading (with_state s d)))
report_in_law Off up reading d h = absurd (false≢true h)
report_in_law Break up reading d h = absurd (false≢true h)
report_in_law Ability up reading d h = stays refl
report_in_law Ack up reading d h = stays refl
report_in_law Complete up reading d h = stays refl
report_in_law CheckLink up reading d h = absurd (false≢true h)
report_in_law Up up reading d h = absurd (false≢true h)

report_stays : (up : Bool) (reading : ℕ) (d : Device) → is_talking d.state ≡ true → Stays d.state (report_due up reading d)
unfolding report_due
report_stays up reading d h = report_in_law d.state up reading d h

read_at_law : (r : Option Register) (d : Device) → Stays d.state (read_at r d)
read_at_law (Some Control) d = stays refl
read_at_law (Some Status) d = stays refl
read_at_law (Some (Part bank third)) d = stays refl
read_at_law None d = stays refl

read_stays : (n : ℕ) (d : Device) → Stays d.state (read_due n d)
unfolding read_due
read_stays n d = read_at_law (register_of n) d

write_at_law : (r : Option Register) (value reading : ℕ) (d : Device) → is_control r ≡ false → Stays d.state (write_at r value reading d)
write_at_law (Some Control) value reading d h = absurd (false≢true (sym h))
write_at_law (Some Status) value reading d h = stays refl
write_at_law (Some (Part bank.Advertised third)) value reading d h = stays refl
write_at_law (Some (Part bank.Partner third)) value reading d h = stays refl
write_at_law (Some (Part bank.Transmit third)) value reading d h = stays refl
write_at_law (Some (Part bank.Heard third)) value reading d h = stays refl
write_at_law None value reading d h = stays refl

write_stays : (n value reading : ℕ) (d : Device) → not (eqb n 512) ≡ true → Stays d.state (write_due n value reading d)
unfolding write_due
write_stays n value reading d h = write_at_law (register_of n) value reading d (sym (control_number n) ∙ turned (eqb n 512) h)

pub step_stays : (e : Event) (d : Device) → is_talking d.state ≡ true → comes_between e d ≡ true → (step_due e d).device.state ≡ d.state
unfolding step_over
step_stays (Edge reading) d talks h = absurd (false≢true h)
step_stays (Tick reading draw) d talks h = (tick_stays reading draw d talks (turned (is_lost low_speed reading d.link) h)).there
step_stays (Sent reading) d talks h = absurd (false≢true h)
step_stays (Report reading up) d talks h = (report_stays up reading d talks).there
step_stays (Read reading register) d talks h = (read_stays register d).there
step_stays (Write reading register value) d talks h = (write_stays register value reading d h).there
step_stays Unnamed d talks h = refl

pub no_edge : (e : Event) (d : Device) → comes_between e d ≡ true → taken_of e d ≡ []
no_edge (Edge reading) d h = absurd (false≢true h)
no_edge (Tick reading draw) d h = refl
no_edge (Sent reading) d h = refl
no_edge (Report reading up) d h = refl
no_edge (Read reading register) d h = refl
no_edge (Write reading register value) d h = refl
no_edge Unnamed d h = refl
