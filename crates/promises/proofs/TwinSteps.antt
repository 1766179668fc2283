-- One step of a device and of its twin, over any profile's numbers and any ordered list of abilities.
use Prim.Native.Nat.{ℕ}
use mathlib.Core.Path.{◌≡◌, refl, sym, ap, ◌∙◌, subst}
use mathlib.Core.Bool.{Bool, true, false, false≢true}
use mathlib.Core.List.{List}
use borrow.Author.Tests.{eqb-true}
use Rattle.answers.specs.Answers.{nothing}
use Rattle.port_state.specs.declared.Flags.{Flags}
use Rattle.port_state.specs.declared.Device.{Device}
use Rattle.port_state.specs.Memory.{Due}
use Rattle.port_registers.specs.Registers.{register_of, read_due}
use Rattle.port_timing.specs.declared.profile.Profile.{Profile}
use Rattle.port_step.specs.declared.events.Event.{Event}
use Rattle.port_step.specs.declared.events.Event.TheVariants.{Edge, Tick, Sent, Report, Read, Write, Unnamed}
use Rattle.port_step.specs.Steps.{step_over}
use Rattle.promises.specs.TwoPasts.{shifted_by, reads_status, without6_and4}
use Rattle.port_state.proofs.ClockAhead.{twin}
use Rattle.promises.proofs.Twins.{Alike, kept, saying_same}
use Rattle.promises.proofs.TwinEdges.{edge_alike}
use Rattle.promises.proofs.TwinTicks.{tick_alike, sent_alike, report_alike}
use Rattle.promises.proofs.TwinRegisters.{status_says, status_twins, read_alike, read_same, write_alike}

-- A shifted event reads 7.513 if the event does.
pub reads_shifted : (δ : ℕ) (e : Event) → reads_status (shifted_by δ e) ≡ reads_status e
reads_shifted δ (Edge reading) = refl
reads_shifted δ (Tick reading draw) = refl
reads_shifted δ (Sent reading) = refl
reads_shifted δ (Report reading up) = refl
reads_shifted δ (Read reading register) = refl
reads_shifted δ (Write reading register value) = refl
reads_shifted δ Unnamed = refl

module _ (p : Profile) (order : List ℕ) (δ : ℕ) where
  -- Any event but a read of 7.513: the same is said, and they stay twins.
  pub step_alike : (g : Flags) (e : Event) (d : Device) → reads_status e ≡ false
      → Alike δ d.lasting.flags g (step_over p order e d) (step_over p order (shifted_by δ e) (twin δ g d))
  unfolding step_over
  step_alike g (Edge reading) d other = edge_alike δ g reading p.mode d
  step_alike g (Tick reading draw) d other = tick_alike δ g reading p draw d
  step_alike g (Sent reading) d other = sent_alike δ g reading order d
  step_alike g (Report reading up) d other = report_alike δ g reading up d
  step_alike g (Read reading register) d other = read_alike δ g register d other
  step_alike g (Write reading register value) d other = write_alike δ g register value reading d
  step_alike g Unnamed d other = saying_same nothing kept

  -- A read of 7.513: without bits 6 and 4 the same is said, no page is ordered, and they are twins with the same flags.
  pub record StatusRead (x y : Due) : Type 0 where
    pub says : without6_and4 x.says ≡ without6_and4 y.says
    pub kind : x.says.kind ≡ 0x83
    pub kind' : y.says.kind ≡ 0x83
    pub devices : y.device ≡ twin δ x.device.lasting.flags x.device

  read_513 : (g : Flags) (d : Device) → StatusRead (read_due 513 d) (read_due 513 (twin δ g d))
  unfolding read_due register_of
  read_513 g d = record { says = status_says δ g d; kind = refl; kind' = refl; devices = status_twins δ g d }

  pub step_status : (g : Flags) (e : Event) (d : Device) → reads_status e ≡ true
      → StatusRead (step_over p order e d) (step_over p order (shifted_by δ e) (twin δ g d))
  unfolding step_over
  step_status g (Edge reading) d it = absurd (false≢true it)
  step_status g (Tick reading draw) d it = absurd (false≢true it)
  step_status g (Sent reading) d it = absurd (false≢true it)
  step_status g (Report reading up) d it = absurd (false≢true it)
  step_status g (Read reading register) d it =
      subst (λ (n : ℕ). StatusRead (read_due n d) (read_due n (twin δ g d))) (sym (eqb-true register 513 it)) (read_513 g d)
  step_status g (Write reading register value) d it = absurd (false≢true it)
  step_status g Unnamed d it = absurd (false≢true it)

  -- Where the flags are the same, whatever the event, all is.
  pub record Exactly (x y : Due) : Type 0 where
    pub says : x.says ≡ y.says
    pub devices : y.device ≡ twin δ x.device.lasting.flags x.device

  from_alike : (f : Flags) (x y : Due) → Alike δ f f x y → Exactly x y
  from_alike f x y a =
      record {
        says = a.says;
        devices = a.devices.device ∙ ap (λ (g : Flags). twin δ g x.device) (sym (a.devices.flags refl));
      }

  status_exactly : (reading register : ℕ) (d : Device) → reads_status (Read reading register) ≡ true
      → Exactly (step_over p order (Read reading register) d) (step_over p order (shifted_by δ (Read reading register)) (twin δ d.lasting.flags d))
  unfolding step_over
  status_exactly reading register d it =
      record { says = read_same δ register d; devices = (step_status d.lasting.flags (Read reading register) d it).devices }

  step_if : (t : Bool) (e : Event) (d : Device) → reads_status e ≡ t
      → Exactly (step_over p order e d) (step_over p order (shifted_by δ e) (twin δ d.lasting.flags d))
  step_if false e d other = from_alike d.lasting.flags _ _ (step_alike d.lasting.flags e d other)
  step_if true (Edge reading) d it = absurd (false≢true it)
  step_if true (Tick reading draw) d it = absurd (false≢true it)
  step_if true (Sent reading) d it = absurd (false≢true it)
  step_if true (Report reading up) d it = absurd (false≢true it)
  step_if true (Read reading register) d it = status_exactly reading register d it
  step_if true (Write reading register value) d it = absurd (false≢true it)
  step_if true Unnamed d it = absurd (false≢true it)

  pub step_exactly : (e : Event) (d : Device) → Exactly (step_over p order e d) (step_over p order (shifted_by δ e) (twin δ d.lasting.flags d))
  step_exactly e d = step_if (reads_status e) e d refl
