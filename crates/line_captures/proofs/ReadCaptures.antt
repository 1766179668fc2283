-- Pages in captures: a capture that begins with a page is answered that page, whatever follows; and one that is answered a page begins with edges
-- that carry its word.
use Rattle.line_reader.specs.Endings.{Ending, Heard}
use Rattle.std.specs.Prelude.{Some, None, Ok, Err}
use mathlib.Core.Path.{◌≡◌, refl, ap, ap₂, ◌∙◌}
use mathlib.Core.Bool.{false}
use mathlib.Core.List.{List, [], ◌∷◌, ◌++◌}
use Prim.Native.Nat.{ℕ, zero, suc, ◌+◌, ◌-◌}
use native.Mathlib.Omega.{arith}
use lib.ListN.{length}
use Rattle.line_mode.specs.declared.modes.LineMode.{LineMode}
use Rattle.line_mode.specs.declared.modes.Judgement.{Judgement}
use Rattle.line_mode.specs.declared.modes.Judgement.TheVariants.{Positions, Quiet, Unfit}
use Rattle.line_reader.specs.declared.reader.Reader.{Reader}
use Rattle.line_reader.specs.declared.reader.Reader.TheVariants.{Fresh, Open, Dropping}
use Rattle.line_mode.specs.Clock.{time_between}
use Rattle.line_mode.specs.Gaps.{judgement_of}
use Rattle.line_reader.specs.Reading.{drops_on, edge_of, heard_along, reader_after}
use Rattle.line_captures.specs.Captures.{is_open, opens_at, ends_at, attempt_of, attempt}
use Rattle.line_captures.specs.ReadingBack.{BeginsWith}
use Rattle.line_reader.specs.declared.endings.Broken.TheVariants.{Cut}
use Rattle.line_captures.proofs.EdgeRuns.{after_silence, HeardLast, Carried}
use Rattle.line_captures.proofs.OnlyPages.{only_carried}
use Rattle.line_captures.proofs.SaysPage.{same_ending}

-- Edges at which nothing is heard until the last, and there an ending: so ends the capture's first attempt, whatever edges follow.
module _ (m : LineMode) (ending : Ending) (rest : List ℕ) where
  first_ending : (n : ℕ) (r : Reader) (edges : List ℕ) (at : ℕ) → heard_along m r edges ≡ after_silence n (Some ending) → is_open (reader_after m r edges) ≡ false
      → attempt_of m r (edges ++ rest) at ≡ attempt ending (opens_at m (reader_after m r edges) rest (at + length edges))
  unfolding attempt_of opens_at
  first_ending zero r [] at h o = cc h
  first_ending (suc n) r [] at h o = cc h
  first_ending zero r (x ∷ []) at h o = let e : (edge_of m r x).heard ≡ Some ending = cc h in rw (e, o)
  first_ending zero r (x ∷ y ∷ edges) at h o = cc h
  first_ending (suc n) r (x ∷ edges) at h o =
      let e : (edge_of m r x).heard ≡ None = cc h in
      rw e (first_ending n (edge_of m r x).reader edges (at + 1) (cc h) o
      ∙ ap (λ (k : ℕ). attempt ending (opens_at m (reader_after m (edge_of m r x).reader edges) rest k)) (omega arith))

-- So if that is a page.
pub page_answer : (m : LineMode) (r : Reader) (w last at : ℕ) (edges rest : List ℕ) → HeardLast m r edges (Some (Ok w)) (Dropping last)
    → attempt_of m r (edges ++ rest) at ≡ attempt (Ok w) (opens_at m (Dropping last) rest (at + length edges))
page_answer m r w last at edges rest h =
    first_ending m (Ok w) rest (length edges - 1) r edges at h.told (ap is_open h.left)
    ∙ ap (λ (s : Reader). attempt (Ok w) (opens_at m s rest (at + length edges))) h.left

-- Nothing is heard of a reader that holds no attempt.
pub shut_silent : (m : LineMode) (r : Reader) (x : ℕ) → is_open r ≡ false → (edge_of m r x).heard ≡ None
unfolding edge_of drops_on
shut_silent m Fresh x h = refl
shut_silent m (Open at last bits) x h = cc h
shut_silent m (Dropping last) x h = by (judgement_of m (time_between x last))
  where
    by : (j : Judgement) → (drops_on x j).heard ≡ None
    by Quiet = refl
    by Unfit = refl
    by (Positions k) = refl

-- A capture that begins with edges at which nothing is heard until the last, and there a page.
record HeardPage (m : LineMode) (r : Reader) (w : ℕ) (capture : List ℕ) : Type 0 where
  edges : List ℕ
  behind : List ℕ
  whole : capture ≡ edges ++ behind
  silent : ℕ
  told : heard_along m r edges ≡ after_silence silent (Some (Ok w))

-- So does one that is answered a page;
answered_page : (m : LineMode) (w : ℕ) (r : Reader) (capture : List ℕ) (at next : ℕ) → attempt_of m r capture at ≡ attempt (Ok w) next
    → HeardPage m r w capture
unfolding attempt_of
answered_page m w r [] at next h =
    let other : ◌≡◌ {A = Ending} (Err Cut) (Ok w) = same_ending h in cc other
answered_page m w r (x ∷ rest) at next h = by (edge_of m r x).heard refl (answered_page m w (edge_of m r x).reader rest (at + 1) next) h
  where
    by : (heard : Heard) → (edge_of m r x).heard ≡ heard
        → (attempt_of m (edge_of m r x).reader rest (at + 1) ≡ attempt (Ok w) next → HeardPage m (edge_of m r x).reader w rest)
        → ends_at heard (attempt_of m (edge_of m r x).reader rest (at + 1)) (opens_at m r (x ∷ rest) at) ≡ attempt (Ok w) next
        → HeardPage m r w (x ∷ rest)
    by None e later h =
        let b = later h in
        record {
          edges = x ∷ b.edges;
          behind = b.behind;
          whole = ap (λ (l : List ℕ). x ∷ l) b.whole;
          silent = suc b.silent;
          told = ap₂ (λ (s : Heard) (l : List Heard). s ∷ l) e b.told;
        }
    by (Some ending) e later h =
        record {
          edges = x ∷ [];
          behind = rest;
          whole = refl;
          silent = 0;
          told = ap (λ (s : Heard). s ∷ []) (e ∙ ap Some (same_ending h));
        }

-- and from a fresh reader on they carry its word: the first edge has opened the attempt.
fresh_page : (m : LineMode) (w : ℕ) (edges : List ℕ) (n : ℕ) → heard_along m Fresh edges ≡ after_silence n (Some (Ok w)) → Carried m w edges
unfolding edge_of
fresh_page m w [] zero h = cc h
fresh_page m w [] (suc n) h = cc h
fresh_page m w (x ∷ edges) zero h = cc h
fresh_page m w (x ∷ edges) (suc n) h = only_carried m n w x edges (cc h)

-- So a capture that is answered a page begins with edges that carry it.
pub answered_carried : (m : LineMode) (w : ℕ) (capture : List ℕ) (at next : ℕ) → attempt_of m Fresh capture at ≡ attempt (Ok w) next → BeginsWith m w capture
answered_carried m w capture at next h =
    let b = answered_page m w Fresh capture at next h in
    let c = fresh_page m w b.edges b.silent b.told in
    record { page = b.edges; behind = b.behind; whole = b.whole; word = c.word; carried = c.carried }
