-- 517-519 and 523-525 have nothing, or a page that was heard on this link with Ack 1: each event forgets, leaves or loads them.
use Prim.Native.Nat.{ℕ}
use mathlib.Core.Path.{◌≡◌, refl, sym, ap, ap₂, ◌∙◌, subst}
use mathlib.Core.Bool.{Bool, true, false, cond, ◌&&◌, ◌||◌, false≢true}
use mathlib.Core.List.{List, [], ◌∷◌, ◌++◌}
use lib.Dec.{eqb}
use borrow.Author.Tests.{eq-eqb}
use Rattle.answers.specs.Answers.{Said}
use Rattle.page_word.specs.Word.{among}
use Rattle.page_word.specs.Fields.{field_of}
use Rattle.page_word.specs.declared.fields.Field.TheVariants as field
use Rattle.page_resolve.specs.Rates.{rate_order}
use Rattle.port_state.specs.declared.State.{State}
use Rattle.port_state.specs.declared.Link.{Link}
use Rattle.port_state.specs.declared.Device.{Device}
use Rattle.port_state.specs.Memory.{fresh_device}
use Rattle.port_timing.specs.Ticks.{low_speed}
use Rattle.port_step.specs.declared.events.Event.{Event}
use Rattle.port_step.specs.Steps.{step_due, after_all}
use Rattle.promises.specs.AtTheDevice.{after}
use Rattle.promises.specs.NextPageLinks.{page_of}
use Rattle.promises.specs.NextPageFacts.{is_awake, answered_after, answered_along, heard_on_link, is_known}
use Rattle.promises.proofs.PageTurns.{Loads, gone, left, loaded, step_turns}

or_true : (t : Bool) → (t || true) ≡ true
or_true true = refl
or_true false = refl

-- A value that is known among pages is known among more; one that was just loaded is known.
among_more : (n : ℕ) (pages more : List ℕ) → among n pages ≡ true → among n (pages ++ more) ≡ true
among_more n [] more h = absurd (false≢true h)
among_more n (p ∷ pages) more h = by (eqb n p) h (among_more n pages more)
  where
    by : (t : Bool) → (t || among n pages) ≡ true → (among n pages ≡ true → among n (pages ++ more) ≡ true) → (t || among n (pages ++ more)) ≡ true
    by true h further = refl
    by false h further = further h

among_last : (n : ℕ) (pages : List ℕ) → among n (pages ++ (n ∷ [])) ≡ true
among_last n [] = ap (λ (t : Bool). t || false) (eq-eqb n n refl)
among_last n (p ∷ pages) = ap (λ (t : Bool). eqb n p || t) (among_last n pages) ∙ or_true (eqb n p)

known_more : (n : ℕ) (pages more : List ℕ) → is_known n pages ≡ true → is_known n (pages ++ more) ≡ true
known_more n pages more h = by (eqb n 0) (among n pages) (eqb (field_of field.Ack n) 1) refl h
  where
    by : (zero in-them acked : Bool) → among n pages ≡ in-them → (zero || (in-them && acked)) ≡ true → (zero || (among n (pages ++ more) && acked)) ≡ true
    by true in-them acked e h = refl
    by false true acked e h = ap (λ (t : Bool). t && acked) (among_more n pages more e) ∙ h
    by false false acked e h = absurd (false≢true h)

known_last : (word : ℕ) (pages : List ℕ) → field_of field.Ack word ≡ 1 → is_known word (pages ++ (word ∷ [])) ≡ true
known_last word pages ack =
    ap (λ (t : Bool). eqb word 0 || t) (ap₂ ◌&&◌ (among_last word pages) (eq-eqb (field_of field.Ack word) 1 ack)) ∙ or_true (eqb word 0)

-- One event: what was known is known, what is loaded is among the pages heard.
one_more : (s u : State) (says : Said) (before then : ℕ) (pages : List ℕ) → Loads s u says before then → (is_awake s ≡ false → pages ≡ []) → is_known before pages ≡ true
    → is_known then (cond (is_awake u) (pages ++ page_of says) []) ≡ true
one_more s u says before then pages (gone e) asleep h = ap (λ (n : ℕ). is_known n (cond (is_awake u) (pages ++ page_of says) [])) e
one_more s u says before then pages (loaded up word e ack f) asleep h =
    rw (up, e, f) (known_last word pages ack)
one_more s u says before then pages (left sleeps e) asleep h = by (is_awake u) refl
  where
    by : (t : Bool) → is_awake u ≡ t → is_known then (cond t (pages ++ page_of says) []) ≡ true
    by true up = ap (λ (n : ℕ). is_known n (pages ++ page_of says)) e ∙ known_more before pages (page_of says) h
    by false down = ap (λ (n : ℕ). is_known n []) e ∙ subst (λ (l : List ℕ). is_known before l ≡ true) (asleep (sleeps down)) h

-- So along events, whichever register it is.
module _ (register : Link → ℕ) (loads : (e : Event) (d : Device) → Loads d.state (step_due e d).device.state (step_due e d).says (register d.link) (register (step_due e d).device.link)) where
  empty_asleep : (t : Bool) (pages : List ℕ) → t ≡ false → cond t pages [] ≡ []
  empty_asleep true pages h = absurd (false≢true (sym h))
  empty_asleep false pages h = refl

  known_along : (pages : List ℕ) (d : Device) (events : List Event) → (is_awake d.state ≡ false → pages ≡ []) → is_known (register d.link) pages ≡ true
      → is_known (register (after_all d events).link) (answered_along pages d events) ≡ true
  unfolding after_all answered_along
  known_along pages d [] asleep h = h
  known_along pages d (e ∷ later) asleep h =
      known_along (answered_after pages e d) (step_due e d).device later
      (empty_asleep (is_awake (step_due e d).device.state) (pages ++ page_of (step_due e d).says))
      (one_more d.state (step_due e d).device.state (step_due e d).says (register d.link) (register (step_due e d).device.link) pages (loads e d) asleep h)

pub next_known : (past : List Event) → is_known (after past).link.next.heard (heard_on_link past) ≡ true
next_known past = known_along (λ (l : Link). l.next.heard) (λ e d. (step_turns low_speed rate_order e d).next) [] fresh_device past (λ _. refl) refl

pub partner_known : (past : List Event) → is_known (after past).link.partner (heard_on_link past) ≡ true
partner_known past = known_along (λ (l : Link). l.partner) (λ e d. (step_turns low_speed rate_order e d).partner) [] fresh_device past (λ _. refl) refl
