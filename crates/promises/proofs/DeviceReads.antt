-- Demand 2 at a device: its reader is what the edges taken have made of a fresh one, so a page is heard just where the edge reader hears one.
use Rattle.line_reader.specs.Endings.{Heard}
use Rattle.std.specs.Prelude.{Some, None, Ok, Err}
use Prim.Native.Nat.{ℕ, ◌^◌, ◌<◌}
use mathlib.Core.Path.{◌≡◌, refl, sym, ap, ap₂, ◌∙◌, subst}
use mathlib.Core.Bool.{Bool, true, false, cond, not, ◌&&◌, ◌||◌, false≢true}
use mathlib.Core.List.{List, [], ◌∷◌, ◌++◌, map, append_assoc, append-nil}
use lib.Dec.{eqb}
use borrow.Author.Tests.{eqb-true, eq-eqb}
use Rattle.answers.specs.Answers.{Said, nothing, refused, page_read}
use Rattle.answers.specs.declared.Refusal.TheVariants as refusal
use Rattle.page_word.proofs.ComputedTest.{and_left, and_right}
use Rattle.page_word.specs.Word.{among}
use Rattle.page_word.specs.Fields.{field_of, has_other_selector, is_tie}
use Rattle.page_word.specs.declared.fields.Field.TheVariants as field
use Rattle.line_mode.specs.Modes.{lsm_mode}
use Rattle.line_mode.proofs.Windows.{lsm_apart}
use Rattle.line_reader.specs.declared.endings.Broken.TheVariants.{Gap, Cut, Check}
use Rattle.line_reader.specs.declared.reader.Reader.{Reader}
use Rattle.line_reader.specs.declared.reader.Reader.TheVariants.{Fresh}
use Rattle.line_reader.specs.declared.reader.Step.{Step}
use Rattle.line_reader.specs.Reading.{edge_of, reader_after}
use Rattle.line_captures.specs.Captures.{is_open}
use Rattle.line_captures.specs.ReadingBack.{Carries, only_last, opens_after}
use Rattle.line_captures.proofs.SinceOpened.{starts_opens, heard_since}
use Rattle.line_captures.proofs.PageEdges.{opening_edge, last_edge, inner_edge}
use Rattle.port_state.specs.declared.State.{State}
use Rattle.port_state.specs.declared.State.TheVariants.{Off, Break, Ability, Ack, Complete, CheckLink, Up}
use Rattle.port_state.specs.declared.Device.{Device}
use Rattle.port_state.specs.Memory.{Due, due, is_talking, fresh_device}
use Rattle.port_state.specs.Changes.{with_state, with_reader}
use Rattle.port_state.specs.Rounds.{is_base, held_in_round}
use Rattle.page_word.specs.NextPages.{same_toggle}
use Rattle.port_hearing.specs.BasePages.{is_changed, echoes_other, base_page_in_ability, base_page_in_ack}
use Rattle.port_hearing.specs.NextPages.{is_changed_next, repeats_held, next_page_in_ability, next_page_in_ack}
use Rattle.port_hearing.specs.Edges.{page_in_ability, page_in_ack, page_in, hears, takes_edges, edge_due}
use Rattle.port_step.specs.declared.events.Event.{Event}
use Rattle.port_step.specs.declared.events.Event.TheVariants.{Edge, Tick, Sent, Report, Read, Write, Unnamed}
use Rattle.port_step.specs.Steps.{step_over, step_due, says_to, after_all}
use Rattle.promises.specs.MadeByCalls.{kinds_for}
use Rattle.promises.specs.AtTheDevice.{taken_next, taken_along, after, taken, reader_of, UnderWay, page_says, refuses_page, is_of_page, GoesOn, EndsPage, comes_between, cut_or_nothing, ReadingAtTheDevice}
use Rattle.promises.proofs.Sound.{fresh_sound, step_brings, all_sound}
use Rattle.promises.proofs.ReaderFollows.{and_false, reader_taken}
use Rattle.promises.proofs.StateStays.{step_stays, no_edge}

-- What is said of an edge that is taken.
abbrev heard_at : (d : Device) (x : ℕ) → Heard
heard_at d x = (edge_of lsm_mode d.link.reader x).heard

-- Two that say the same; that what is said is the page or its refusal.
record Alike (x y : Due) : Type 0 where
  same : x.says ≡ y.says

record OfPage (word : ℕ) (x : Due) : Type 0 where
  it_is : is_of_page word x.says ≡ true

alike_if : (t : Bool) {x y u v : Due} → Alike x u → Alike y v → Alike (cond t x y) (cond t u v)
alike_if true a b = a
alike_if false a b = b

of_if : {word : ℕ} (t : Bool) {x y : Due} → OfPage word x → OfPage word y → OfPage word (cond t x y)
of_if true a b = a
of_if false a b = b

alike : {s : Said} {d e : Device} → Alike (due s d) (due s e)
alike = record { same = refl }

-- What a page answers hangs on neither the reader nor the reading;
page_says_law : (s : State) (word x : ℕ) (r : Reader) (d : Device) → Alike (page_in s word x (with_reader r (with_state s d))) (page_in s word 0 (with_state s d))
unfolding page_in page_in_ability base_page_in_ability next_page_in_ability page_in_ack base_page_in_ack next_page_in_ack repeats_held
page_says_law Off word x r d = alike
page_says_law Break word x r d = alike
page_says_law Ability word x r d =
    alike_if (is_base d.link.next.round) (alike_if (has_other_selector word) alike (alike_if (is_tie d.link.talk.own word) alike alike))
    (alike_if (repeats_held word d.link) alike (alike_if (same_toggle word (held_in_round d.link)) alike alike))
page_says_law Ack word x r d =
    alike_if (is_base d.link.next.round)
    (alike_if (is_changed word d.link.talk.held) alike
    (alike_if (eqb (field_of field.Ack word) 0) alike (alike_if (echoes_other d.link.talk.own word) alike alike)))
    (alike_if (is_changed_next word (held_in_round d.link)) alike (alike_if (eqb (field_of field.Ack word) 0) alike alike))
page_says_law Complete word x r d = alike
page_says_law CheckLink word x r d = alike
page_says_law Up word x r d = alike

-- it is the page or its refusal, where edges are taken.
itself : (word : ℕ) (d : Device) → OfPage word (due (page_read word) d)
itself word d = record { it_is = rw (eq-eqb word word refl) }

refusing : {word : ℕ} {d : Device} (s : Said) → refuses_page s ≡ true → OfPage word (due s d)
refusing {word} s h = record { it_is = ap (λ (t : Bool). t || (eqb s.kind 0x80 && eqb s.value word)) h }

of_page : (s : State) (word : ℕ) (d : Device) → is_talking s ≡ true → OfPage word (page_in s word 0 (with_state s d))
unfolding page_in page_in_ability base_page_in_ability next_page_in_ability page_in_ack base_page_in_ack next_page_in_ack
of_page Off word d h = absurd (false≢true h)
of_page Break word d h = absurd (false≢true h)
of_page Ability word d h =
    of_if (is_base d.link.next.round)
    (of_if (has_other_selector word) (refusing (refused refusal.Selector) refl)
    (of_if (is_tie d.link.talk.own word) (refusing (refused refusal.Tie) refl) (itself word _)))
    (of_if (repeats_held word d.link) (itself word _)
    (of_if (same_toggle word (held_in_round d.link)) (refusing (refused refusal.Toggle) refl) (itself word _)))
of_page Ack word d h =
    of_if (is_base d.link.next.round)
    (of_if (is_changed word d.link.talk.held) (refusing (refused refusal.Changed) refl)
    (of_if (eqb (field_of field.Ack word) 0) (itself word _) (of_if (echoes_other d.link.talk.own word) (refusing (refused refusal.Echo) refl) (itself word _))))
    (of_if (is_changed_next word (held_in_round d.link)) (refusing (refused refusal.Changed) refl)
    (of_if (eqb (field_of field.Ack word) 0) (itself word _) (itself word _)))
of_page Complete word d h = itself word _
of_page CheckLink word d h = absurd (false≢true h)
of_page Up word d h = absurd (false≢true h)

said_of_page : (word : ℕ) (d : Device) → takes_edges d ≡ true → is_of_page word (page_says word d) ≡ true
said_of_page word d takes = (of_page d.state word d (and_left (is_talking d.state) (not d.link.talk.out) takes)).it_is

module _ (d : Device) (x : ℕ) (takes : takes_edges d ≡ true) where
  abbrev next : Device
  next = with_reader (edge_of lsm_mode d.link.reader x).reader d

  brings : step_due (Edge x) d ≡ hears (heard_at d x) x next
  unfolding step_over edge_due
  brings = rw takes

  brings_heard : (h : Heard) → heard_at d x ≡ h → step_due (Edge x) d ≡ hears h x next
  brings_heard h e = brings ∙ ap (λ (z : Heard). hears z x next) e

  says_page : (w : ℕ) → heard_at d x ≡ Some (Ok w) → (step_due (Edge x) d).says ≡ page_says w d
  unfolding hears
  says_page w e =
      ap (λ (z : Due). z.says) (brings_heard (Some (Ok w)) e) ∙ (page_says_law d.state w x (edge_of lsm_mode d.link.reader x).reader d).same

-- What is heard and is no page leaves the device as it is.
silent_heard : (x : ℕ) (d : Device) → hears None x d ≡ due nothing d
unfolding hears
silent_heard x d = refl

gap_heard : (x : ℕ) (d : Device) → hears (Some (Err Gap)) x d ≡ due (refused refusal.Gap) d
unfolding hears
gap_heard x d = refl

cut_heard : (x : ℕ) (d : Device) → hears (Some (Err Cut)) x d ≡ due (refused refusal.Cut) d
unfolding hears
cut_heard x d = refl

check_heard : (x : ℕ) (d : Device) → hears (Some (Err Check)) x d ≡ due (refused refusal.Check) d
unfolding hears
check_heard x d = refl

-- The kinds of answer that a page has, and no event but an edge.
abbrev page_kinds : List ℕ
page_kinds = 4 ∷ 5 ∷ 6 ∷ 7 ∷ 17 ∷ 0x80 ∷ []

abbrev none_among : List ℕ → List ℕ → Bool
none_among [] list = true
none_among (n ∷ kinds) list = not (among n list) && none_among kinds list

not_in_both : (k : ℕ) (kinds list : List ℕ) → none_among kinds list ≡ true → among k kinds ≡ true → among k list ≡ true → ⊥
not_in_both k [] list apart h l = false≢true h
not_in_both k (n ∷ kinds) list apart h l =
    by (eqb k n) refl h (λ rest. not_in_both k kinds list (and_right (not (among n list)) (none_among kinds list) apart) rest l)
  where
    by : (t : Bool) → eqb k n ≡ t → (t || among k kinds) ≡ true → (among k kinds ≡ true → ⊥) → ⊥
    by true e h later =
        false≢true (sym (ap not (ap (λ (j : ℕ). among j list) (sym (eqb-true k n e)) ∙ l)) ∙ and_left (not (among n list)) (none_among kinds list) apart)
    by false e h later = later h

refused_among : (k : ℕ) → among k (4 ∷ 5 ∷ 6 ∷ 7 ∷ 17 ∷ []) ≡ true → among k page_kinds ≡ true
refused_among k h = by (eqb k 4) (eqb k 5) (eqb k 6) (eqb k 7) (eqb k 17) (eqb k 0x80) h
  where
    by : (a b c d e f : Bool) → (a || (b || (c || (d || (e || false))))) ≡ true → (a || (b || (c || (d || (e || (f || false)))))) ≡ true
    by true b c d e f h = refl
    by false true c d e f h = refl
    by false false true d e f h = refl
    by false false false true e f h = refl
    by false false false false true f h = refl
    by false false false false false f h = absurd (false≢true h)

-- An edge with such an answer is taken, and a page is heard at it.
pub record HearsPage (d : Device) (x : ℕ) : Type 0 where
  pub is_taken : takes_edges d ≡ true
  pub word : ℕ
  pub heard : heard_at d x ≡ Some (Ok word)

not_taken : (d : Device) (x : ℕ) → takes_edges d ≡ false → step_due (Edge x) d ≡ due nothing d
unfolding step_over edge_due
not_taken d x ignored = rw ignored

out_ignored : (d : Device) (x : ℕ) → d.link.talk.out ≡ true → step_due (Edge x) d ≡ due nothing d
out_ignored d x out = not_taken d x (ap (λ (t : Bool). is_talking d.state && not t) out ∙ and_false (is_talking d.state))

elsewhere_ignored : (d : Device) (x : ℕ) → is_talking d.state ≡ false → step_due (Edge x) d ≡ due nothing d
elsewhere_ignored d x silent = not_taken d x (ap (λ (t : Bool). t && not d.link.talk.out) silent)

hears_page : (d : Device) (x : ℕ) → among (step_due (Edge x) d).says.kind page_kinds ≡ true → HearsPage d x
hears_page d x h = by (takes_edges d) refl
  where
    no_kind : (s : Said) → (step_due (Edge x) d).says ≡ s → among s.kind page_kinds ≡ false → HearsPage d x
    no_kind s e other = absurd (false≢true (sym other ∙ sym (ap (λ (z : Said). among z.kind page_kinds) e) ∙ h))

    at : (takes : takes_edges d ≡ true) (heard : Heard) → heard_at d x ≡ heard → HearsPage d x
    at takes None e = no_kind nothing (ap (λ (z : Due). z.says) (brings_heard d x takes None e ∙ silent_heard x (next d x takes))) refl
    at takes (Some (Ok word)) e = record { is_taken = takes; word = word; heard = e }
    at takes (Some (Err Gap)) e = no_kind (refused refusal.Gap) (ap (λ (z : Due). z.says) (brings_heard d x takes (Some (Err Gap)) e ∙ gap_heard x (next d x takes))) refl
    at takes (Some (Err Cut)) e = no_kind (refused refusal.Cut) (ap (λ (z : Due). z.says) (brings_heard d x takes (Some (Err Cut)) e ∙ cut_heard x (next d x takes))) refl
    at takes (Some (Err Check)) e = no_kind (refused refusal.Check) (ap (λ (z : Due). z.says) (brings_heard d x takes (Some (Err Check)) e ∙ check_heard x (next d x takes))) refl

    by : (t : Bool) → takes_edges d ≡ t → HearsPage d x
    by true takes = at takes (heard_at d x) refl
    by false ignored = no_kind nothing (ap (λ (z : Due). z.says) (not_taken d x ignored)) refl

-- After events from fresh on: the event is the last edge of the page.
talking : (past : List Event) → takes_edges (after past) ≡ true → is_talking (after past).state ≡ true
talking past takes = and_left (is_talking (after past).state) (not (after past).link.talk.out) takes

ends_page : (past : List Event) (x : ℕ) (h : HearsPage (after past) x) → EndsPage past (Edge x) h.word
ends_page past x h =
    let since = heard_since lsm_mode (taken past) x h.word (ap (λ (r : Reader). (edge_of lsm_mode r x).heard) (sym (reader_taken past (talking past h.is_taken))) ∙ h.heard) in
    record {
      reading = x;
      edge = refl;
      page =
          record {
            takes = h.is_taken;
            before = since.attempt.before;
            first = since.attempt.first;
            later = since.attempt.since;
            whole = since.attempt.whole;
            opened = sym (starts_opens lsm_mode since.attempt.before since.attempt.first) ∙ since.attempt.starts;
            word = since.carried.word;
            carried = since.carried.carried;
          };
    }

other : (past : List Event) (e : Event) → none_among page_kinds (kinds_for e) ≡ true → among (step_due e (after past)).says.kind page_kinds ≡ true → ⊥
other past e apart h =
    not_in_both (step_due e (after past)).says.kind page_kinds (kinds_for e) apart h
    (step_brings e (after past) (all_sound past fresh_device fresh_sound)).kind

only_edges : (past : List Event) (e : Event) → among (step_due e (after past)).says.kind page_kinds ≡ true
    → (x : ℕ) × (e ≡ Edge x) × (HearsPage (after past) x)
only_edges past (Edge x) h = (x, refl, hears_page (after past) x h)
only_edges past (Tick reading draw) h = absurd (other past (Tick reading draw) refl h)
only_edges past (Sent reading) h = absurd (other past (Sent reading) refl h)
only_edges past (Report reading up) h = absurd (other past (Report reading up) refl h)
only_edges past (Read reading register) h = absurd (other past (Read reading register) refl h)
only_edges past (Write reading register value) h = absurd (other past (Write reading register value) refl h)
only_edges past Unnamed h = absurd (other past Unnamed refl h)

page_only : (past : List Event) (e : Event) (w : ℕ) → (step_due e (after past)).says ≡ page_read w → EndsPage past e w
page_only past e w says = by (only_edges past e (ap (λ (s : Said). among s.kind page_kinds) says))
  where
    by : (x : ℕ) × (e ≡ Edge x) × (HearsPage (after past) x) → EndsPage past e w
    by found =
        let h = found.2 in
        let edge-says : (step_due (Edge found.0) (after past)).says ≡ page_read w = ap (λ (z : Event). (step_due z (after past)).says) (sym found.1) ∙ says in
        let same = eqb-true w h.word
        (sym (ap (is_of_page h.word) (sym (says_page (after past) found.0 h.is_taken h.word h.heard) ∙ edge-says))
        ∙ said_of_page h.word (after past) h.is_taken) in
        subst (EndsPage past e) (sym same) (subst (λ (z : Event). EndsPage past z h.word) (sym found.1) (ends_page past found.0 h))

refusal_only : (past : List Event) (e : Event) → refuses_page (step_due e (after past)).says ≡ true → (w : ℕ) × EndsPage past e w
refusal_only past e says = by (only_edges past e (refused_among (step_due e (after past)).says.kind says))
  where
    by : (x : ℕ) × (e ≡ Edge x) × (HearsPage (after past) x) → (w : ℕ) × EndsPage past e w
    by found = (found.2.word, subst (λ (z : Event). EndsPage past z found.2.word) (sym found.1) (ends_page past found.0 found.2))

-- One event more.
after_more : (d : Device) (past : List Event) (e : Event) → after_all d (past ++ (e ∷ [])) ≡ (step_due e (after_all d past)).device
unfolding after_all
after_more d [] e = refl
after_more d (event ∷ past) e = after_more (step_due event d).device past e

taken_more : (edges : List ℕ) (d : Device) (past : List Event) (e : Event)
    → taken_along edges d (past ++ (e ∷ [])) ≡ taken_next (taken_along edges d past) e (after_all d past)
unfolding after_all taken_along
taken_more edges d [] e = refl
taken_more edges d (event ∷ past) e = taken_more (taken_next edges event d) (step_due event d).device past e

module _ (past : List Event) (x : ℕ) (takes : takes_edges (after past) ≡ true) where
  -- What the device hears is what a fresh reader hears after the edges taken.
  heard_taken : (h : Heard) → (edge_of lsm_mode (reader_of past) x).heard ≡ h → heard_at (after past) x ≡ h
  heard_taken h e = ap (λ (r : Reader). (edge_of lsm_mode r x).heard) (reader_taken past (talking past takes)) ∙ e

  -- An edge that ends no page changes the reader and nothing else.
  only_reader : (h : Heard) (s : Said) → heard_at (after past) x ≡ h → ((d : Device) → hears h x d ≡ due s d) → step_due (Edge x) (after past) ≡ due s (next (after past) x takes)
  only_reader h s e keeps = brings_heard (after past) x takes h e ∙ keeps (next (after past) x takes)

  goes_on_with : (s : Said) → step_due (Edge x) (after past) ≡ due s (next (after past) x takes) → GoesOn past x s
  goes_on_with s e =
      record {
        answer = ap (λ (z : Due). z.says) e;
        takes = ap takes_edges (after_more fresh_device past (Edge x) ∙ ap (λ (z : Due). z.device) e) ∙ takes;
        edges =
            taken_more [] fresh_device past (Edge x)
            ∙ ap₂ (λ (t : Bool) (l : List ℕ). cond t (taken past ++ l) [])
            (ap₂ ◌&&◌ (talking past takes) (ap (λ (z : Due). is_talking z.device.state) e ∙ talking past takes))
            (ap (λ (t : Bool). cond t (x ∷ []) []) takes);
      }

  opens : opens_after lsm_mode (taken past) x ≡ true → GoesOn past x (cut_or_nothing past)
  opens h = by (is_open (reader_of past)) (heard_taken _ (ap (λ (s : Step). s.heard) (opening_edge lsm_mode lsm_apart (taken past) x h)))
    where
      by : (attempt : Bool) → heard_at (after past) x ≡ cond attempt (Some (Err Cut)) None → GoesOn past x (cond attempt (refused refusal.Cut) nothing)
      by true e = goes_on_with (refused refusal.Cut) (only_reader (Some (Err Cut)) (refused refusal.Cut) e (cut_heard x))
      by false e = goes_on_with nothing (only_reader None nothing e (silent_heard x))

  opened_device : opens_after lsm_mode (taken past) x ≡ true → (step_due (Edge x) (after past)).device ≡ next (after past) x takes
  opened_device h = by (is_open (reader_of past)) (heard_taken _ (ap (λ (s : Step). s.heard) (opening_edge lsm_mode lsm_apart (taken past) x h)))
    where
      by : (attempt : Bool) → heard_at (after past) x ≡ cond attempt (Some (Err Cut)) None → (step_due (Edge x) (after past)).device ≡ next (after past) x takes
      by true e = ap (λ (z : Due). z.device) (only_reader (Some (Err Cut)) (refused refusal.Cut) e (cut_heard x))
      by false e = ap (λ (z : Due). z.device) (only_reader None nothing e (silent_heard x))

module _ (past : List Event) (x w : ℕ) where
  heard_under_way : (rest : List ℕ) (u : UnderWay past w rest) (h : Heard)
      → (edge_of lsm_mode (reader_after lsm_mode Fresh (u.before ++ (u.first ∷ u.later))) x).heard ≡ h → heard_at (after past) x ≡ h
  heard_under_way rest u h e = heard_taken past x u.takes h (ap (λ (l : List ℕ). (edge_of lsm_mode (reader_after lsm_mode Fresh l) x).heard) u.whole ∙ e)

  ends : UnderWay past w (x ∷ []) → (step_due (Edge x) (after past)).says ≡ page_says w (after past)
  ends u =
      says_page (after past) x u.takes w
      (heard_under_way (x ∷ []) u (Some (Ok w)) (last_edge lsm_mode lsm_apart w u.word u.before u.first u.later u.opened x u.carried))

  inner : (y : ℕ) (rest : List ℕ) (u : UnderWay past w (x ∷ y ∷ rest)) → step_due (Edge x) (after past) ≡ due nothing (next (after past) x u.takes)
  inner y rest u =
      only_reader past x u.takes None nothing
      (heard_under_way (x ∷ y ∷ rest) u None (inner_edge lsm_mode lsm_apart w u.word u.before u.first u.later u.opened x y rest u.carried))
      (silent_heard x)

  goes_on_law : (y : ℕ) (rest : List ℕ) → UnderWay past w (x ∷ y ∷ rest) → GoesOn past x nothing
  goes_on_law y rest u = goes_on_with past x u.takes nothing (inner y rest u)

-- Events between the edges of a page.
between : (past : List Event) (e : Event) → is_talking (after past).state ≡ true → comes_between e (after past) ≡ true
    → ((after (past ++ (e ∷ []))).state ≡ (after past).state) × (taken (past ++ (e ∷ [])) ≡ taken past)
between past e talks passing =
    let kept = step_stays e (after past) talks passing in (
      ap (λ (d : Device). d.state) (after_more fresh_device past e) ∙ kept,
      taken_more [] fresh_device past e
          ∙ ap₂ (λ (t : Bool) (l : List ℕ). cond t (taken past ++ l) []) (ap₂ ◌&&◌ talks (ap is_talking kept ∙ talks)) (no_edge e (after past) passing)
          ∙ append-nil (taken past),
    )

-- The rest of a page, edge after edge.
further : (past : List Event) (x w y : ℕ) (rest : List ℕ) → UnderWay past w (x ∷ y ∷ rest) → UnderWay (past ++ (Edge x ∷ [])) w (y ∷ rest)
further past x w y rest u =
    let g = goes_on_law past x w y rest u in
    record {
      takes = g.takes;
      before = u.before;
      first = u.first;
      later = u.later ++ (x ∷ []);
      whole = g.edges ∙ ap (λ (l : List ℕ). l ++ (x ∷ [])) u.whole ∙ append_assoc u.before (u.first ∷ u.later) (x ∷ []);
      opened = u.opened;
      word = u.word;
      carried = subst (λ (l : List ℕ). Carries lsm_mode w (u.first ∷ l)) (sym (append_assoc u.later (x ∷ []) (y ∷ rest))) u.carried;
    }

in_a_row : (past : List Event) (w : ℕ) (rest : List ℕ) → UnderWay past w rest
    → says_to (after past) (map Edge rest) ≡ only_last nothing rest (page_says w (after past))
unfolding says_to
in_a_row past w [] u = refl
in_a_row past w (x ∷ []) u = ap (λ (s : Said). s ∷ []) (ends past x w u)
in_a_row past w (x ∷ y ∷ rest) u =
    let e = inner past x w y rest u in
    let d = next (after past) x u.takes in
    let there : after (past ++ (Edge x ∷ [])) ≡ d = after_more fresh_device past (Edge x) ∙ ap (λ (z : Due). z.device) e in
    ap (λ (z : Due). z.says ∷ says_to z.device (map Edge (y ∷ rest))) e
    ∙ ap (λ (l : List Said). nothing ∷ l)
    (ap (λ (z : Device). says_to z (map Edge (y ∷ rest))) (sym there) ∙ in_a_row (past ++ (Edge x ∷ [])) w (y ∷ rest) (further past x w y rest u)
    ∙ ap (only_last nothing (y ∷ rest))
    (ap (page_says w) there ∙ (page_says_law (after past).state w 0 (edge_of lsm_mode (after past).link.reader x).reader (after past)).same))

whole_page : (past : List Event) (x w : ℕ) (edges : List ℕ) → takes_edges (after past) ≡ true → opens_after lsm_mode (taken past) x ≡ true → w < 2 ^ 48
    → Carries lsm_mode w (x ∷ edges) → says_to (after past) (map Edge (x ∷ edges)) ≡ cut_or_nothing past ∷ only_last nothing edges (page_says w (after past))
unfolding says_to
whole_page past x w edges takes h word carried =
    let g = opens past x takes h in
    let d = next (after past) x takes in
    let there : (step_due (Edge x) (after past)).device ≡ d = opened_device past x takes h in
    ap₂ (λ (s : Said) (l : List Said). s ∷ l) g.answer
    (ap (λ (z : Device). says_to z (map Edge edges)) (sym (after_more fresh_device past (Edge x)))
    ∙ in_a_row (past ++ (Edge x ∷ [])) w edges
    (record {
      takes = g.takes;
      before = taken past;
      first = x;
      later = [];
      whole = g.edges;
      opened = h;
      word = word;
      carried = carried;
    })
    ∙ ap (only_last nothing edges)
    (ap (page_says w) (after_more fresh_device past (Edge x) ∙ there)
    ∙ (page_says_law (after past).state w 0 (edge_of lsm_mode (after past).link.reader x).reader (after past)).same))

pub at_the_device : ReadingAtTheDevice
at_the_device =
    record {
      out_ignored = out_ignored;
      elsewhere_ignored = elsewhere_ignored;
      reader = reader_taken;
      page = whole_page;
      page_or_refusal = said_of_page;
      between = between;
      first = opens;
      inside = λ past x y w rest u. goes_on_law past x w y rest u;
      last = ends;
      only_page = page_only;
      only_refusal = refusal_only;
    }
