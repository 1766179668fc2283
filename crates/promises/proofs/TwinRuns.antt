-- Runs of a device and of its twin, by induction on the row of events: with the same flags all is the same to the end; with any flags all is the
-- same but for bits 6 and 4 of 7.513 up to and with its first read, which makes the flags the same.
use Prim.Native.Nat.{ℕ}
use mathlib.Core.Path.{◌≡◌, refl, sym, ap, ap₂, ◌∙◌, subst}
use mathlib.Core.Bool.{Bool, true, false, cond, not, ◌&&◌, ◌||◌}
use mathlib.Core.List.{List, [], ◌∷◌, map}
use lib.Dec.{eqb}
use borrow.Author.Tests.{eqb-true}
use Rattle.answers.specs.Answers.{Said}
use Rattle.page_resolve.specs.Rates.{rate_order}
use Rattle.port_state.specs.declared.Flags.{Flags}
use Rattle.port_state.specs.declared.Device.{Device}
use Rattle.port_registers.specs.Registers.{read_due}
use Rattle.port_timing.specs.Ticks.{low_speed}
use Rattle.port_step.specs.declared.events.Event.{Event}
use Rattle.port_step.specs.Steps.{step_due, says_to, after_all}
use Rattle.promises.specs.TwoPasts.{shifted_by, without6_and4, reads_status, compared, status_was_read, compared_value, ordered_pages, Same}
use Rattle.port_state.proofs.ClockAhead.{twin}
use Rattle.promises.proofs.TwinRegisters.{status_says, read_alike, read_same}
use Rattle.promises.proofs.TwinSteps.{reads_shifted, step_alike, StatusRead, step_status, step_exactly}

-- How answers, register values and pages are compared with one event more at the head: one that reads 7.513, and any other.
compared_other : (e : Event) (later : List Event) (s : Said) (rest : List Said) → reads_status e ≡ false
    → compared (e ∷ later) (s ∷ rest) ≡ s ∷ compared later rest
unfolding compared
compared_other e later s rest other = ap (λ (t : Bool). cond t (without6_and4 s ∷ rest) (s ∷ compared later rest)) other

compared_read : (e : Event) (later : List Event) (s : Said) (rest : List Said) → reads_status e ≡ true
    → compared (e ∷ later) (s ∷ rest) ≡ without6_and4 s ∷ rest
unfolding compared
compared_read e later s rest it = ap (λ (t : Bool). cond t (without6_and4 s ∷ rest) (s ∷ compared later rest)) it

value_other : (e : Event) (later : List Event) (n : ℕ) (v : Said) → reads_status e ≡ false → compared_value (e ∷ later) n v ≡ compared_value later n v
unfolding compared_value status_was_read
value_other e later n v other =
    ap (λ (t : Bool). cond (eqb n 513 && not (t || status_was_read later)) (without6_and4 v) v) other

whole : (t : Bool) (v : Said) → cond (t && false) (without6_and4 v) v ≡ v
whole true v = refl
whole false v = refl

value_read : (e : Event) (later : List Event) (n : ℕ) (v : Said) → reads_status e ≡ true → compared_value (e ∷ later) n v ≡ v
unfolding compared_value status_was_read
value_read e later n v it =
    ap (λ (t : Bool). cond (eqb n 513 && not (t || status_was_read later)) (without6_and4 v) v) it ∙ whole (eqb n 513) v

pages_read : (s : Said) (rest : List Said) → s.kind ≡ 0x83 → ordered_pages (s ∷ rest) ≡ ordered_pages rest
unfolding ordered_pages
pages_read s rest value = ap (λ (k : ℕ). cond (eqb k 0x81) (s.value ∷ ordered_pages rest) (ordered_pages rest)) value

pages_more : (s s' : Said) (rest rest' : List Said) → s ≡ s' → ordered_pages rest ≡ ordered_pages rest' → ordered_pages (s ∷ rest) ≡ ordered_pages (s' ∷ rest')
unfolding ordered_pages
pages_more s s' rest rest' same more =
    ap₂ (λ (x : Said) (pages : List ℕ). cond (eqb x.kind 0x81) (x.value ∷ pages) pages) same more

-- The same flags: the same answers,
pub exact_says : (δ : ℕ) (later : List Event) (d : Device) → says_to d later ≡ says_to (twin δ d.lasting.flags d) (map (shifted_by δ) later)
unfolding says_to
exact_says δ [] d = refl
exact_says δ (e ∷ later) d =
    let x = step_due e d in
    let step = step_exactly low_speed rate_order δ e d in
    ap₂ (λ (s : Said) (rest : List Said). s ∷ rest)
    step.says
    (exact_says δ later x.device ∙ ap (λ (y : Device). says_to y (map (shifted_by δ) later)) (sym step.devices))

-- and the device afterwards is the twin with the same flags.
pub exact_after : (δ : ℕ) (later : List Event) (d : Device)
    → after_all (twin δ d.lasting.flags d) (map (shifted_by δ) later) ≡ twin δ (after_all d later).lasting.flags (after_all d later)
unfolding after_all
exact_after δ [] d = refl
exact_after δ (e ∷ later) d =
    ap (λ (y : Device). after_all y (map (shifted_by δ) later)) (step_exactly low_speed rate_order δ e d).devices
    ∙ exact_after δ later (step_due e d).device

-- So every register reads the same.
pub exact_value : (δ : ℕ) (later : List Event) (d : Device) (n : ℕ)
    → (read_due n (after_all d later)).says ≡ (read_due n (after_all (twin δ d.lasting.flags d) (map (shifted_by δ) later))).says
exact_value δ later d n =
    read_same δ n (after_all d later) ∙ ap (λ (y : Device). (read_due n y).says) (sym (exact_after δ later d))

-- Any flags. Before any event the registers read the same but for bits 6 and 4 of 7.513.
value_now : (δ n : ℕ) (t : Bool) (g : Flags) (d : Device) → eqb n 513 ≡ t
    → cond (t && true) (without6_and4 (read_due n d).says) (read_due n d).says ≡ cond (t && true) (without6_and4 (read_due n (twin δ g d)).says) (read_due n (twin δ g d)).says
value_now δ n true g d it =
    subst (λ (m : ℕ). without6_and4 (read_due m d).says ≡ without6_and4 (read_due m (twin δ g d)).says) (sym (eqb-true n 513 it)) (status_says δ g d)
value_now δ n false g d other = (read_alike δ g n d other).says

no_events : (δ : ℕ) (g : Flags) (d : Device) → Same d [] (twin δ g d) []
unfolding compared compared_value status_was_read ordered_pages says_to after_all
no_events δ g d = record { answers = refl; registers = λ n. value_now δ n (eqb n 513) g d refl; pages = refl }

-- One event more at the head, which is no read of 7.513.
one_more : (e e' : Event) (later later' : List Event) (d d' : Device) → reads_status e ≡ false → reads_status e' ≡ false
    → (step_due e d).says ≡ (step_due e' d').says → Same (step_due e d).device later (step_due e' d').device later'
    → Same d (e ∷ later) d' (e' ∷ later')
unfolding says_to after_all
one_more e e' later later' d d' other other' same rest =
    let x = step_due e d in
    let y = step_due e' d' in
    record {
      answers =
          compared_other e later x.says (says_to x.device later) other
          ∙ ap₂ (λ (s : Said) (more : List Said). s ∷ more) same rest.answers
          ∙ sym (compared_other e' later' y.says (says_to y.device later') other');
      registers = λ n.
          value_other e later n (read_due n (after_all x.device later)).says other
          ∙ rest.registers n
          ∙ sym (value_other e' later' n (read_due n (after_all y.device later')).says other');
      pages = pages_more x.says y.says (says_to x.device later) (says_to y.device later') same rest.pages;
    }

-- One that is.
one_read : (e : Event) (δ : ℕ) (later : List Event) (d d' : Device) → reads_status e ≡ true
    → StatusRead low_speed rate_order δ (step_due e d) (step_due (shifted_by δ e) d')
    → Same d (e ∷ later) d' (map (shifted_by δ) (e ∷ later))
unfolding says_to after_all
one_read e δ later d d' it step =
    let x = step_due e d in
    let y = step_due (shifted_by δ e) d' in
    let later' = map (shifted_by δ) later in
    let it' = reads_shifted δ e ∙ it in
    let says : says_to x.device later ≡ says_to y.device later' =
    exact_says δ later x.device ∙ ap (λ (z : Device). says_to z later') (sym step.devices)
    in
    record {
      answers =
          compared_read e later x.says (says_to x.device later) it
          ∙ ap₂ (λ (s : Said) (more : List Said). s ∷ more) step.says says
          ∙ sym (compared_read (shifted_by δ e) later' y.says (says_to y.device later') it');
      registers = λ n.
          value_read e later n (read_due n (after_all x.device later)).says it
          ∙ exact_value δ later x.device n
          ∙ ap (λ (z : Device). (read_due n (after_all z later')).says) (sym step.devices)
          ∙ sym (value_read (shifted_by δ e) later' n (read_due n (after_all y.device later')).says it');
      pages =
          pages_read x.says (says_to x.device later) step.kind
          ∙ ap ordered_pages says
          ∙ sym (pages_read y.says (says_to y.device later') step.kind');
    }

pub same_runs : (δ : ℕ) (later : List Event) (g : Flags) (d : Device) → Same d later (twin δ g d) (map (shifted_by δ) later)
same_runs δ [] g d = no_events δ g d
same_runs δ (e ∷ later) g d = by_event (reads_status e) refl (λ (h : Flags) (x : Device). same_runs δ later h x)
  where
    by_event : (t : Bool) → reads_status e ≡ t → ((h : Flags) (x : Device) → Same x later (twin δ h x) (map (shifted_by δ) later))
        → Same d (e ∷ later) (twin δ g d) (map (shifted_by δ) (e ∷ later))
    by_event true it rest = one_read e δ later d (twin δ g d) it (step_status low_speed rate_order δ g e d it)
    by_event false other rest =
        let x = step_due e d in
        let y = step_due (shifted_by δ e) (twin δ g d) in
        let step = step_alike low_speed rate_order δ g e d other in
        one_more e (shifted_by δ e) later (map (shifted_by δ) later) d (twin δ g d) other (reads_shifted δ e ∙ other) step.says
        (subst (λ (z : Device). Same x.device later z (map (shifted_by δ) later)) (sym step.devices.device) (rest y.device.lasting.flags x.device))
