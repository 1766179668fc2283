-- Reading from next place to next place meets every attempt once, in order, and ends.
-- What one reader tells along a whole capture, with a Cut for an attempt that is open at its end, is the first attempt's ending and then the
-- same for what stands from the next place on: the edge that opens an attempt leaves any reader as a fresh one takes it.
use Rattle.answers.specs.declared.Refusal.TheVariants as refusal
use Rattle.line_reader.specs.Endings.{Ending}
use Rattle.std.specs.Prelude.{Option, Some, None, Ok, Err}
use mathlib.Core.Path.{◌≡◌, refl, sym, ap, ◌∙◌}
use mathlib.Core.Bool.{Bool, true, false, cond}
use mathlib.Core.List.{List, [], ◌∷◌, ◌++◌}
use Prim.Native.Nat.{ℕ, zero, suc, ◌+◌, ◌-◌, ◌%◌, ◌^◌, ◌<◌, ◌≤◌}
use native.Mathlib.Nat.{le_refl}
use native.Mathlib.Omega.{arith}
use lib.Dec.{eqb, ltb}
use lib.ListN.{length, drop, length-drop, drop_of_length-le}
use lib.Seq.{drop-nil, drop-drop}
use borrow.Author.Tests.{ltb-true, ltb-false, le-ltb, eqb-false, ne_eqb}
use Rattle.page_check_bits.specs.CheckBits.{agrees}
use Rattle.line_mode.specs.declared.modes.LineMode.{LineMode}
use Rattle.line_mode.specs.declared.modes.Judgement.{Judgement}
use Rattle.line_mode.specs.declared.modes.Judgement.TheVariants.{Positions, Quiet, Unfit}
use Rattle.line_reader.specs.declared.endings.Broken.TheVariants.{Gap, Cut, Check}
use Rattle.line_reader.specs.declared.reader.Step.{Step}
use Rattle.line_reader.specs.declared.reader.Reader.{Reader}
use Rattle.line_reader.specs.declared.reader.Reader.TheVariants.{Fresh, Open, Dropping}
use Rattle.line_mode.specs.Clock.{time_between}
use Rattle.line_mode.specs.Gaps.{judgement_of}
use Rattle.line_mode.specs.Modes.{mode_of, by_mode}
use Rattle.line_reader.specs.Pattern.{asks}
use Rattle.line_reader.specs.Reading.{step, with_bit, arrives, goes_on, drops_on, edge_of, heard_along, reader_after}
use Rattle.line_captures.specs.Captures.{opens_at, attempt_of, read_in, read_of, onwards, attempts_from, ReadOutcome, attempt}
use Rattle.line_captures.specs.ReadingBack.{endings, ends_open}
use Rattle.line_captures.proofs.SaysPage.{same_next}

-- How every attempt of a list of edges ends that a reader takes, as it tells them edge by edge.
abbrev pub told_by : LineMode → Reader → List ℕ → List Ending
told_by m r edges = endings (heard_along m r edges) ++ ends_open (reader_after m r edges)

-- What an edge brings to an open attempt: it goes on; or it is cut and the edge opens the next; or it ends and edges are dropped.
data Turns (x : ℕ) : Step → Type 0 where
  on : (at bits : ℕ) → Turns x (step None (Open at x bits))
  cut : Turns x (step (Some (Err Cut)) (Open 1 x 0))
  over : (ending : Ending) → Turns x (step (Some ending) (Dropping x))

arrived : (at bits x : ℕ) → Turns x (arrives at bits x)
unfolding arrives
arrived at bits x = by (eqb at 157) (agrees bits)
  where
    by : (t g : Bool) → Turns x (cond t (step (Some (cond g (Ok (bits % 2 ^ 48)) (Err Check))) (Dropping x)) (step None (Open at x bits)))
    by false g = on at bits
    by true g = over (cond g (Ok (bits % 2 ^ 48)) (Err Check))

turns : (mode : LineMode) (at bits x : ℕ) (j : Judgement) → Turns x (goes_on mode at bits x j)
unfolding goes_on
turns mode at bits x Quiet = cut
turns mode at bits x Unfit = over (Err Gap)
turns mode at bits x (Positions k) = by (asks mode at k)
  where
    by : (t : Bool) → Turns x (cond t (arrives (at + k) (with_bit at k bits) x) (step (Some (Err Gap)) (Dropping x)))
    by true = arrived (at + k) (with_bit at k bits) x
    by false = over (Err Gap)

-- From `at` on a reader's edges tell what stands before, and then what a fresh reader tells from the place `next` on.
pub record Goes (m : LineMode) (r : Reader) (edges : List ℕ) (at next : ℕ) (before : List Ending) : Type 0 where
  pub least : at ≤ next
  pub most : next ≤ at + length edges
  pub told : told_by m r edges ≡ before ++ told_by m Fresh (drop (next - at) edges)

-- What is told along edges of which the first brings this.
abbrev tells : LineMode → Step → List ℕ → List Ending
tells m b rest = endings (b.heard ∷ heard_along m b.reader rest) ++ ends_open (reader_after m b.reader rest)

drop_later : (x : ℕ) (rest : List ℕ) (at next : ℕ) → at + 1 ≤ next → drop (next - (at + 1)) rest ≡ drop (next - at) (x ∷ rest)
drop_later x rest at next h = ap (λ (n : ℕ). drop n (x ∷ rest)) (let e : suc (next - (at + 1)) ≡ next - at = omega arith in e)

module _ (m : LineMode) (r : Reader) (x : ℕ) (rest : List ℕ) (at next : ℕ) where
  -- An edge at which nothing is said,
  silent_edge : (r' : Reader) (before : List Ending) → edge_of m r x ≡ step None r' → Goes m r' rest (at + 1) next before
      → Goes m r (x ∷ rest) at next before
  silent_edge r' before e g =
      record {
        least = let l = g.least in omega arith;
        most = let l = g.most in omega arith;
        told =
            ap (λ (b : Step). tells m b rest) e ∙ g.told
            ∙ ap (λ (l : List ℕ). before ++ told_by m Fresh l) (drop_later x rest at next g.least);
      }

  -- and one that ends an attempt.
  ending_edge : (ending : Ending) (r' : Reader) → edge_of m r x ≡ step (Some ending) r' → Goes m r' rest (at + 1) next []
      → Goes m r (x ∷ rest) at next (ending ∷ [])
  ending_edge ending r' e g =
      record {
        least = let l = g.least in omega arith;
        most = let l = g.most in omega arith;
        told =
            ap (λ (b : Step). tells m b rest) e
            ∙ ap (λ (l : List Ending). ending ∷ l) g.told
            ∙ ap (λ (l : List ℕ). ending ∷ told_by m Fresh l) (drop_later x rest at next g.least);
      }

-- The edge that opens an attempt is as the first edge of a fresh reader.
opening_edge : (m : LineMode) (r : Reader) (x : ℕ) (rest : List ℕ) (at : ℕ) → edge_of m r x ≡ step None (Open 1 x 0) → Goes m r (x ∷ rest) at at []
unfolding edge_of
opening_edge m r x rest at e =
    record {
      least = le_refl at;
      most = omega arith;
      told =
          ap (λ (b : Step). tells m b rest) e
          ∙ ap (λ (n : ℕ). told_by m Fresh (drop n (x ∷ rest))) (let z : 0 ≡ at - at = omega arith in z);
    }

cutting_edge : (m : LineMode) (r : Reader) (x : ℕ) (rest : List ℕ) (at : ℕ) → edge_of m r x ≡ step (Some (Err Cut)) (Open 1 x 0) → Goes m r (x ∷ rest) at at ((Err Cut) ∷ [])
unfolding edge_of
cutting_edge m r x rest at e =
    record {
      least = le_refl at;
      most = omega arith;
      told =
          ap (λ (b : Step). tells m b rest) e
          ∙ ap (λ (n : ℕ). (Err Cut) ∷ told_by m Fresh (drop n (x ∷ rest))) (let z : 0 ≡ at - at = omega arith in z);
    }

-- What an edge brings while edges are dropped.
data Drops (x : ℕ) : Step → Type 0 where
  stays : Drops x (step None (Dropping x))
  opens : Drops x (step None (Open 1 x 0))

drops : (x : ℕ) (j : Judgement) → Drops x (drops_on x j)
unfolding drops_on
drops x Quiet = opens
drops x Unfit = stays
drops x (Positions k) = stays

-- Dropped edges lead to the place where the next attempt opens.
dropping : (m : LineMode) (z : ℕ) (edges : List ℕ) (at : ℕ) → Goes m (Dropping z) edges at (opens_at m (Dropping z) edges at) []
unfolding opens_at
dropping m z [] at = record { least = le_refl at; most = omega arith; told = sym (ap (told_by m Fresh) (drop-nil (at - at))) }
dropping m z (x ∷ rest) at = by (dropping m x rest (at + 1)) (edge_of m (Dropping z) x) refl (unfold edge_of in drops x (judgement_of m (time_between x z)))
  where
    by : Goes m (Dropping x) rest (at + 1) (opens_at m (Dropping x) rest (at + 1)) [] → (b : Step) → edge_of m (Dropping z) x ≡ b → Drops x b
        → Goes m (Dropping z) (x ∷ rest) at (opens_at m (Dropping z) (x ∷ rest) at) []
    by ih b e stays = rw e (silent_edge m (Dropping z) x rest at (opens_at m (Dropping x) rest (at + 1)) (Dropping x) [] e ih)
    by ih b e opens = rw e (opening_edge m (Dropping z) x rest at e)

-- Edges that lead to the ending of an attempt, and to the place where the next one opens: as this outcome has them.
record Leads (m : LineMode) (r : Reader) (edges : List ℕ) (at : ℕ) (outcome : ReadOutcome) : Type 0 where
  ending : Ending
  next : ℕ
  told : outcome ≡ attempt ending next
  goes : Goes m r edges at next (ending ∷ [])

-- So do those of an open attempt,
attempting : (m : LineMode) (p y b : ℕ) (edges : List ℕ) (at : ℕ) → Leads m (Open p y b) edges at (attempt_of m (Open p y b) edges at)
unfolding attempt_of opens_at
attempting m p y b [] at =
    record {
      ending = (Err Cut);
      next = at;
      told = refl;
      goes = record { least = le_refl at; most = omega arith; told = sym (ap (λ (l : List ℕ). (Err Cut) ∷ told_by m Fresh l) (drop-nil (at - at))) };
    }
attempting m p y b (x ∷ rest) at =
    by (λ p' y' b'. attempting m p' y' b' rest (at + 1)) (edge_of m (Open p y b) x) refl
    (unfold edge_of in turns m p b x (judgement_of m (time_between x y)))
  where
    by : ((p' y' b' : ℕ) → Leads m (Open p' y' b') rest (at + 1) (attempt_of m (Open p' y' b') rest (at + 1)))
        → (brought : Step) → edge_of m (Open p y b) x ≡ brought → Turns x brought → Leads m (Open p y b) (x ∷ rest) at (attempt_of m (Open p y b) (x ∷ rest) at)
    by ih brought e (on p' b') =
        let l = ih p' x b' in
        record {
          ending = l.ending;
          next = l.next;
          told = rw e l.told;
          goes = silent_edge m (Open p y b) x rest at l.next (Open p' x b') (l.ending ∷ []) e l.goes;
        }
    by ih brought e cut = record { ending = (Err Cut); next = at; told = rw e; goes = cutting_edge m (Open p y b) x rest at e }
    by ih brought e (over ending) =
        record {
          ending = ending;
          next = opens_at m (Dropping x) rest (at + 1);
          told = rw e;
          goes = ending_edge m (Open p y b) x rest at (opens_at m (Dropping x) rest (at + 1)) ending (Dropping x) e (dropping m x rest (at + 1));
        }

-- An attempt that goes forward in the capture and stays in it.
pub record GoesForward (outcome : ReadOutcome) (capture : List ℕ) (place : ℕ) : Type 0 where
  pub ending : Ending
  pub next : ℕ
  pub told : outcome ≡ attempt ending next
  pub forward : place < next
  pub inside : next ≤ length capture

-- One read call of the walk: it goes forward, stays in the capture, and tells the next of the capture's attempts.
pub record WalkStep (m : LineMode) (capture : List ℕ) (place : ℕ) (outcome : ReadOutcome) : Type 0 where
  pub goes : GoesForward outcome capture place
  pub tells : told_by m Fresh (drop place capture) ≡ goes.ending ∷ told_by m Fresh (drop goes.next capture)

-- A fresh reader's first edge opens an attempt.
walk_from : (m : LineMode) (capture : List ℕ) (place : ℕ) → place < length capture → (tail : List ℕ) → drop place capture ≡ tail
    → WalkStep m capture place (attempt_of m Fresh tail place)
unfolding attempt_of edge_of
walk_from m capture place h [] e = absurd (let l = ap length e ∙ refl in omega (arith, length-drop place capture))
walk_from m capture place h (x ∷ rest) e =
    let l = attempting m 1 x 0 rest (place + 1) in
    let g = silent_edge m Fresh x rest place l.next (Open 1 x 0) (l.ending ∷ []) refl l.goes in
    let later = l.goes.least in
    let most = g.most in
    record {
      goes =
          record {
            ending = l.ending;
            next = l.next;
            told = l.told;
            forward = omega arith;
            inside = omega (arith, length-drop place capture, ap length e);
          };
      tells =
          ap (told_by m Fresh) e ∙ g.told
          ∙ ap (λ (edges : List ℕ). l.ending ∷ told_by m Fresh edges)
          (ap (drop (l.next - place)) (sym e) ∙ drop-drop (l.next - place) place capture
          ∙ ap (λ (n : ℕ). drop n capture) (let s : place + (l.next - place) ≡ l.next = omega arith in s));
    }

pub walk_step : (m : LineMode) (capture : List ℕ) (place : ℕ) → place < length capture → WalkStep m capture place (read_in m capture place)
unfolding read_in
walk_step m capture place h =
    rw (le-ltb (length capture) place (omega arith), ne_eqb place (length capture) (λ e. omega arith))
    (walk_from m capture place h (drop place capture) refl)

-- The call by a mode's number is that in the mode which it names.
pub read_known : (mode : ℕ) (m : LineMode) (capture : List ℕ) (place : ℕ) → mode_of mode ≡ Some m → read_of mode capture place ≡ read_in m capture place
unfolding read_of
read_known mode m capture place known = ap (λ (f : Option LineMode). by_mode f (λ n. read_in n capture place) (Err refusal.Mode)) known

-- At the end of a capture, or past it, no attempt is left.
module _ (m : LineMode) (capture : List ℕ) (place : ℕ) (h : length capture ≤ place) where
  none_told : told_by m Fresh (drop place capture) ≡ []
  none_told = ap (told_by m Fresh) (drop_of_length-le capture h)

  pub none_read : (from : ℕ → List Ending) → onwards (read_in m capture place) from ≡ []
  unfolding read_in
  none_read from = by (ltb (length capture) place) refl (eqb place (length capture)) refl
    where
      by : (t : Bool) → ltb (length capture) place ≡ t → (u : Bool) → eqb place (length capture) ≡ u
          → onwards (cond t (Err refusal.Room) (cond u (Ok None) (attempt_of m Fresh (drop place capture) place))) from ≡ []
      by true e u f = refl
      by false e true f = refl
      by false e false f = absurd (eqb-false place (length capture) f (let l = ltb-false (length capture) place e in omega arith))

-- So a call that brings an attempt was inside the capture, and goes forward in it.
pub attempt_forward : (mode : ℕ) (capture : List ℕ) (place : ℕ) (ending : Ending) (next : ℕ) → read_of mode capture place ≡ attempt ending next
    → (place < next) × (next ≤ length capture)
unfolding read_of
attempt_forward mode capture place ending next h = by (mode_of mode) h
  where
    inside : (m : LineMode) → read_in m capture place ≡ attempt ending next → (t : Bool) → ltb place (length capture) ≡ t → (place < next) × (next ≤ length capture)
    inside m h true e =
        let g = (walk_step m capture place (ltb-true place (length capture) e)).goes in
        let same : g.next ≡ next = same_next (sym g.told ∙ h) in
        let f = g.forward in
        let i = g.inside in (omega arith, omega arith)
    inside m h false e =
        let none = none_read m capture place (ltb-false place (length capture) e) (λ n. []) in
        absurd (let z : ending ∷ [] ≡ [] = ap (λ (o : ReadOutcome). onwards o (λ n. [])) (sym h) ∙ none in let l = ap length z in omega arith)

    by : (f : Option LineMode) → by_mode f (λ m. read_in m capture place) (Err refusal.Mode) ≡ attempt ending next → (place < next) × (next ≤ length capture)
    by None h = cc h
    by (Some m) h = inside m h (ltb place (length capture)) refl

-- The walk tells just the attempts that a reader tells edge by edge along the capture, each once and in order; and as many calls as there are
-- edges left are enough.
pub attempts_told : (mode : ℕ) (m : LineMode) → mode_of mode ≡ Some m → (capture : List ℕ) (more place : ℕ) → length capture ≤ place + more
    → attempts_from more mode capture place ≡ told_by m Fresh (drop place capture)
unfolding attempts_from
attempts_told mode m known capture zero place h = sym (none_told m capture place (omega arith))
attempts_told mode m known capture (suc more) place h =
    ap (λ (o : ReadOutcome). onwards o (attempts_from more mode capture)) (read_known mode m capture place known)
    ∙ by (attempts_told mode m known capture more) (ltb place (length capture)) refl
  where
    by : ((next : ℕ) → length capture ≤ next + more → attempts_from more mode capture next ≡ told_by m Fresh (drop next capture))
        → (t : Bool) → ltb place (length capture) ≡ t
        → onwards (read_in m capture place) (attempts_from more mode capture) ≡ told_by m Fresh (drop place capture)
    by ih true e =
        let s = walk_step m capture place (ltb-true place (length capture) e) in
        let f = s.goes.forward in
        ap (λ (o : ReadOutcome). onwards o (attempts_from more mode capture)) s.goes.told
        ∙ ap (λ (rest : List Ending). s.goes.ending ∷ rest) (ih s.goes.next (omega arith))
        ∙ sym s.tells
    by ih false e =
        let l = ltb-false place (length capture) e in none_read m capture place l (attempts_from more mode capture) ∙ sym (none_told m capture place l)
