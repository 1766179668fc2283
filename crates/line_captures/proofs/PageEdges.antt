-- A page's edges, one at a time: what the reader brings at an edge where an attempt may open, at one inside a page, and at its last.
use Rattle.line_reader.specs.Endings.{Heard}
use Rattle.std.specs.Prelude.{Some, None, Ok, Err}
use mathlib.Core.Path.{◌≡◌, refl, ap, ◌∙◌}
use mathlib.Core.Bool.{true, cond}
use mathlib.Core.List.{List, [], ◌∷◌, ◌++◌}
use Prim.Native.Nat.{ℕ, ◌^◌, ◌<◌}
use borrow.Author.Tests.{leb-true}
use Rattle.line_mode.specs.declared.modes.LineMode.{LineMode}
use Rattle.line_mode.specs.Clock.{time_between}
use Rattle.line_mode.proofs.Windows.{Apart}
use Rattle.line_reader.specs.declared.endings.Broken.TheVariants.{Cut}
use Rattle.line_reader.specs.declared.reader.Reader.{Reader}
use Rattle.line_reader.specs.declared.reader.Reader.TheVariants.{Fresh, Open, Dropping}
use Rattle.line_reader.specs.declared.reader.Step.{Step}
use Rattle.line_reader.specs.Reading.{step, edge_of, heard_along, reader_after}
use Rattle.line_captures.specs.Captures.{is_open}
use Rattle.line_captures.specs.ReadingBack.{Carries, only_last, opens_after}
use Rattle.line_captures.proofs.EdgeRuns.{at_last}
use Rattle.line_captures.proofs.ReadBack.{fresh_opens, dropping_opens, open_opens, opened_reads}
use Rattle.line_captures.proofs.SinceOpened.{starts_at, starts_opens, after_append}

-- An edge that may open an attempt does, whatever the reader held; it ends an open one.
pub starting : (m : LineMode) → Apart m → (r : Reader) (x : ℕ) → starts_at m r x ≡ true → edge_of m r x ≡ step (cond (is_open r) (Some (Err Cut)) None) (Open 1 x 0)
starting m apart Fresh x h = fresh_opens m x
starting m apart (Open at last bits) x h = open_opens m apart last x (leb-true m.quiet (time_between x last) h) at bits
starting m apart (Dropping last) x h = dropping_opens m apart last x (leb-true m.quiet (time_between x last) h)

-- After any edges from fresh on.
pub opening_edge : (m : LineMode) → Apart m → (past : List ℕ) (x : ℕ) → opens_after m past x ≡ true
    → edge_of m (reader_after m Fresh past) x ≡ step (cond (is_open (reader_after m Fresh past)) (Some (Err Cut)) None) (Open 1 x 0)
opening_edge m apart past x h = starting m apart (reader_after m Fresh past) x (starts_opens m past x ∙ h)

-- Before the last of some edges nothing is heard, if only at the last something is.
one_more : (z x : ℕ) (later rest : List ℕ) (h : Heard) → only_last None (z ∷ (later ++ (x ∷ rest))) h ≡ None ∷ only_last None (later ++ (x ∷ rest)) h
one_more z x [] rest h = refl
one_more z x (y ∷ later) rest h = refl

module _ (m : LineMode) (x : ℕ) (h : Heard) where
  at_end : (r : Reader) (later : List ℕ) → heard_along m r (later ++ (x ∷ [])) ≡ only_last None (later ++ (x ∷ [])) h → (edge_of m (reader_after m r later) x).heard ≡ h
  at_end r [] e = cc e
  at_end r (z ∷ later) e =
      at_end (edge_of m r z).reader later (let f = e ∙ one_more z x later [] h in cc f)

  before_end : (y : ℕ) (rest : List ℕ) (r : Reader) (later : List ℕ) → heard_along m r (later ++ (x ∷ y ∷ rest)) ≡ only_last None (later ++ (x ∷ y ∷ rest)) h
      → (edge_of m (reader_after m r later) x).heard ≡ None
  before_end y rest r [] e = cc e
  before_end y rest r (z ∷ later) e =
      before_end y rest (edge_of m r z).reader later (let f = e ∙ one_more z x later (y ∷ rest) h in cc f)

-- Edges that may open an attempt, some of a page, and the rest of it to come.
module _ (m : LineMode) (apart : Apart m) (w : ℕ) (word : w < 2 ^ 48) (before : List ℕ) (first : ℕ) (later : List ℕ) (opened : opens_after m before first ≡ true) where
  under_way : reader_after m Fresh (before ++ (first ∷ later)) ≡ reader_after m (Open 1 first 0) later
  under_way =
      after_append m Fresh before (first ∷ later) ∙ ap (λ (s : Step). reader_after m s.reader later) (opening_edge m apart before first opened)

  whole : (rest : List ℕ) → Carries m w (first ∷ (later ++ rest)) → heard_along m (Open 1 first 0) (later ++ rest) ≡ only_last None (later ++ rest) (Some (Ok w))
  whole rest carried = at_last m (Open 1 first 0) (later ++ rest) (Some (Ok w)) (opened_reads m apart w word first (later ++ rest) carried).told

  pub last_edge : (x : ℕ) → Carries m w (first ∷ (later ++ (x ∷ []))) → (edge_of m (reader_after m Fresh (before ++ (first ∷ later))) x).heard ≡ Some (Ok w)
  last_edge x carried =
      ap (λ (r : Reader). (edge_of m r x).heard) under_way ∙ at_end m x (Some (Ok w)) (Open 1 first 0) later (whole (x ∷ []) carried)

  pub inner_edge : (x y : ℕ) (rest : List ℕ) → Carries m w (first ∷ (later ++ (x ∷ y ∷ rest)))
      → (edge_of m (reader_after m Fresh (before ++ (first ∷ later))) x).heard ≡ None
  inner_edge x y rest carried =
      ap (λ (r : Reader). (edge_of m r x).heard) under_way ∙ before_end m x (Some (Ok w)) y rest (Open 1 first 0) later (whole (x ∷ y ∷ rest) carried)
