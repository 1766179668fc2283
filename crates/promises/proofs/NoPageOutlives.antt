-- The customer's demand 3. Two devices that have just gone into Break with the same 7.514-7.516 differ in their flags and in the entry reading
-- alone: the twin of the first is the second, whose readings are taken modulo 2^32, with its own flags. So what runs of twins show holds of them.
use Prim.Native.Nat.{ℕ, ◌+◌, ◌%◌, ◌^◌}
use mathlib.Core.Path.{◌≡◌, refl, sym, ap, ap₂, ◌∙◌, subst}
use mathlib.Core.List.{List, [], ◌∷◌, map}
use native.Mathlib.Omega.{arith}
use Rattle.page_resolve.specs.Rates.{rate_order}
use Rattle.line_mode.specs.Clock.{time_between}
use Rattle.port_state.specs.declared.Device.{Device}
use Rattle.port_state.specs.Memory.{fresh_device, into_break}
use Rattle.port_state.specs.Changes.{with_advertised}
use Rattle.port_registers.specs.Registers.{read_due}
use Rattle.port_timing.specs.Ticks.{low_speed}
use Rattle.port_step.specs.declared.events.Event.{Event}
use Rattle.port_step.specs.declared.events.Event.TheVariants.{Edge, Tick, Sent, Report, Read, Write, Unnamed}
use Rattle.port_step.specs.Steps.{says_to, after_all}
use Rattle.promises.specs.TwoPasts.{Module, device_of, reading_of, difference, shifted_by, compared, compared_value, ordered_pages, Same, NoPageOutlivesItsLink}
use Rattle.port_state.proofs.ClockAhead.{twin}
use Rattle.promises.proofs.TwinRuns.{exact_says, exact_value, same_runs}
use Rattle.promises.proofs.Entries.{step_entry}

-- A reading that was shifted is below 2^32, so a shift by 0 leaves it.
shifted_twice : (δ reading : ℕ) → ((reading + δ) % 2 ^ 32 + 0) % 2 ^ 32 ≡ (reading + δ) % 2 ^ 32
shifted_twice δ reading = omega arith

settled_event : (δ : ℕ) (e : Event) → shifted_by 0 (shifted_by δ e) ≡ shifted_by δ e
settled_event δ (Edge reading) = ap Edge (shifted_twice δ reading)
settled_event δ (Tick reading draw) = ap (λ (time : ℕ). Tick time draw) (shifted_twice δ reading)
settled_event δ (Sent reading) = ap Sent (shifted_twice δ reading)
settled_event δ (Report reading up) = ap (λ (time : ℕ). Report time up) (shifted_twice δ reading)
settled_event δ (Read reading register) = ap (λ (time : ℕ). Read time register) (shifted_twice δ reading)
settled_event δ (Write reading register value) = ap (λ (time : ℕ). Write time register value) (shifted_twice δ reading)
settled_event δ Unnamed = refl

settled_events : (δ : ℕ) (later : List Event) → map (shifted_by 0) (map (shifted_by δ) later) ≡ map (shifted_by δ) later
settled_events δ [] = refl
settled_events δ (e ∷ later) = ap₂ (λ (x : Event) (rest : List Event). x ∷ rest) (settled_event δ e) (settled_events δ later)

-- Given shifted events, a device whose readings are taken modulo 2^32 is not told from itself.
pub settled : (δ : ℕ) (later : List Event) (d : Device) → Same (twin 0 d.lasting.flags d) (map (shifted_by δ) later) d (map (shifted_by δ) later)
settled δ later d =
    record {
      answers = ap (compared later') (sym says);
      registers = λ n. ap (compared_value later' n) (sym (value n));
      pages = ap ordered_pages (sym says);
    }
  where
    later' : List Event
    later' = map (shifted_by δ) later

    says : says_to d later' ≡ says_to (twin 0 d.lasting.flags d) later'
    says = exact_says 0 later' d ∙ ap (says_to (twin 0 d.lasting.flags d)) (settled_events δ later)

    value : (n : ℕ) → (read_due n (after_all d later')).says ≡ (read_due n (after_all (twin 0 d.lasting.flags d) later')).says
    value n =
        exact_value 0 later' d n
        ∙ ap (λ (events : List Event). (read_due n (after_all (twin 0 d.lasting.flags d) events)).says) (settled_events δ later)

pub same_both : {a b c : Device} {events events' events'' : List Event} → Same a events b events' → Same b events' c events'' → Same a events c events''
same_both p q =
    record { answers = p.answers ∙ q.answers; registers = λ n. p.registers n ∙ q.registers n; pages = p.pages ∙ q.pages }

-- The entry readings and their difference.
meets : (r s : ℕ) → (r + time_between s r) % 2 ^ 32 ≡ (s + 0) % 2 ^ 32
meets r s = omega arith

-- Two entered devices with the same advertisement.
entered_twins : (r s : ℕ) (d c : Device) → d.lasting.advertised ≡ c.lasting.advertised
    → twin (time_between s r) c.lasting.flags (into_break r d) ≡ twin 0 c.lasting.flags (into_break s c)
entered_twins r s d c same = ap₂ (λ (time a : ℕ). into_break time (with_advertised a c)) (meets r s) same

-- What two devices show that have entered Break with the same advertisement, whatever they were before.
abbrev EnteredSame : Type 0
EnteredSame =
    (r s : ℕ) (d c : Device) (later : List Event) → d.lasting.advertised ≡ c.lasting.advertised
    → Same (into_break r d) later (into_break s c) (map (shifted_by (time_between s r)) later)

entered_same : EnteredSame
entered_same r s d c later same =
    same_both (same_runs δ later c.lasting.flags (into_break r d))
    (subst (λ (x : Device). Same x (map (shifted_by δ) later) (into_break s c) (map (shifted_by δ) later)) (sym (entered_twins r s d c same)) (settled δ later (into_break s c)))
  where
    δ : ℕ
    δ = time_between s r

-- What it is to have just entered Break, after a past.
abbrev HasEntered : Type 0
HasEntered = (m : Module) → device_of m ≡ into_break (reading_of m.entry) (after_all fresh_device m.past)

-- A module that has just gone into Break has just entered it.
pub has_entered : HasEntered
has_entered m = (step_entry low_speed rate_order m.entry (after_all fresh_device m.past)).same m.entered

-- The two are the demand.
by_entries : HasEntered → EnteredSame → NoPageOutlivesItsLink
by_entries entered alike first second later same =
    subst (λ (x : Device). Same x later (device_of second) later') (sym (entered first))
    (subst (λ (y : Device). Same (into_break r d) later y later') (sym (entered second)) (alike r s d c later advertised))
  where
    r : ℕ
    r = reading_of first.entry

    s : ℕ
    s = reading_of second.entry

    d : Device
    d = after_all fresh_device first.past

    c : Device
    c = after_all fresh_device second.past

    later' : List Event
    later' = map (shifted_by (difference first second)) later

    advertised : d.lasting.advertised ≡ c.lasting.advertised
    advertised =
        sym (ap (λ (x : Device). x.lasting.advertised) (entered first)) ∙ same
        ∙ ap (λ (x : Device). x.lasting.advertised) (entered second)

pub no_page_outlives_its_link : NoPageOutlivesItsLink
no_page_outlives_its_link = by_entries has_entered entered_same
