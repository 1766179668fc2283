-- Walking a capture edge by edge: what is left to find is the same after each edge that settles nothing.
use Rattle.line_reader.specs.Endings.{Ending}
use Rattle.std.specs.Prelude.{Some, None, Err}
use mathlib.Core.Path.{◌≡◌, refl, sym, ap, ap₂, ◌∙◌}
use mathlib.Core.Bool.{Bool, true, false, cond}
use mathlib.Core.List.{List, [], ◌∷◌}
use Prim.Native.Nat.{ℕ, ◌+◌, ◌<◌, ◌≤◌}
use native.Mathlib.Nat.{add_assoc, add-zero}
use native.Mathlib.Numerals.{add-one}
use native.Mathlib.Omega.{arith}
use lib.Dec.{eqb}
use lib.ListN.{length, get_or, drop, drop_of_length-le}
use lib.Seq.{drop-cons}
use Rattle.line_mode.specs.declared.modes.LineMode.{LineMode}
use Rattle.line_reader.specs.declared.endings.Broken.TheVariants.{Gap, Cut}
use Rattle.line_reader.specs.declared.reader.Reader.{Reader}
use Rattle.line_reader.specs.declared.reader.Reader.TheVariants.{Fresh, Open, Dropping}
use Rattle.line_reader.specs.declared.reader.Step.{Step}
use Rattle.line_mode.specs.declared.modes.Judgement.{Judgement}
use Rattle.line_mode.specs.declared.modes.Judgement.TheVariants.{Positions, Quiet, Unfit}
use Rattle.line_mode.specs.Clock.{time_between}
use Rattle.line_mode.specs.Gaps.{judgement_of}
use Rattle.line_reader.specs.Pattern.{asks}
use Rattle.line_reader.specs.Reading.{step, with_bit, page_end, arrives, goes_on, edge_of, drops_on}
use Rattle.line_captures.specs.Captures.{is_open, opens_at, attempt_of, attempt}

-- One edge of the tail.
here : (tail : List ℕ) (i : ℕ) → i < length tail → drop i tail ≡ get_or tail i 0 ∷ drop (i + 1) tail
here tail i h = drop-cons tail i 0 h ∙ ap (λ (k : ℕ). get_or tail i 0 ∷ drop k tail) (sym (add-one i))

module _ (m : LineMode) (r : Reader) (x : ℕ) (rest : List ℕ) (at : ℕ) where
  pub opens_here : is_open (edge_of m r x).reader ≡ true → opens_at m r (x ∷ rest) at ≡ at
  unfolding opens_at
  opens_here h = rw h

  pub opens_later : is_open (edge_of m r x).reader ≡ false → opens_at m r (x ∷ rest) at ≡ opens_at m (edge_of m r x).reader rest (at + 1)
  unfolding opens_at
  opens_later h = rw h

  pub attempt_on : (edge_of m r x).heard ≡ None → attempt_of m r (x ∷ rest) at ≡ attempt_of m (edge_of m r x).reader rest (at + 1)
  unfolding attempt_of
  attempt_on h = rw h

  pub attempt_ends : (ending : Ending) → (edge_of m r x).heard ≡ Some ending → attempt_of m r (x ∷ rest) at ≡ attempt ending (opens_at m r (x ∷ rest) at)
  unfolding attempt_of
  attempt_ends ending h = rw h

opens_end : (m : LineMode) (r : Reader) (tail : List ℕ) (at i : ℕ) → length tail ≤ i → opens_at m r (drop i tail) at ≡ at
unfolding opens_at
opens_end m r tail at i h = rw (drop_of_length-le tail h)

attempt_end : (m : LineMode) (r : Reader) (tail : List ℕ) (at i : ℕ) → length tail ≤ i → attempt_of m r (drop i tail) at ≡ attempt (Err Cut) at
unfolding attempt_of opens_at
attempt_end m r tail at i h = rw (drop_of_length-le tail h)

-- Looking for the edge that opens the next attempt.
pub record Seeking (m : LineMode) (reader : Reader) (tail : List ℕ) (place start : ℕ) (held : Reader) (i : ℕ) : Type 0 where
  pub most : i ≤ length tail
  pub same : opens_at m reader (drop start tail) (place + start) ≡ opens_at m held (drop i tail) (place + i)

module _ (m : LineMode) (reader : Reader) (tail : List ℕ) (place start : ℕ) (held : Reader) (i : ℕ) (s : Seeking m reader tail place start held i) where
  pub found : (next : Reader) → next ≡ (edge_of m held (get_or tail i 0)).reader → is_open next ≡ true → i < length tail
      → place + i ≡ opens_at m reader (drop start tail) (place + start)
  found next e o h =
      sym (s.same ∙ ap (λ (l : List ℕ). opens_at m held l (place + i)) (here tail i h)
      ∙ opens_here m held (get_or tail i 0) (drop (i + 1) tail) (place + i) (ap is_open (sym e) ∙ o))

  pub seek_on : (next : Reader) → next ≡ (edge_of m held (get_or tail i 0)).reader → is_open next ≡ false → i < length tail
      → Seeking m reader tail place start next (i + 1)
  seek_on next e o h =
      record {
        most = omega arith;
        same =
            s.same ∙ ap (λ (l : List ℕ). opens_at m held l (place + i)) (here tail i h)
            ∙ opens_later m held (get_or tail i 0) (drop (i + 1) tail) (place + i) (ap is_open (sym e) ∙ o)
            ∙ ap₂ (λ (r : Reader) (n : ℕ). opens_at m r (drop (i + 1) tail) n) (sym e) (add_assoc place i 1);
      }

  pub sought : length tail ≤ i → place + length tail ≡ opens_at m reader (drop start tail) (place + start)
  sought h =
      let most = s.most in
      let all : place + length tail ≡ place + i = omega arith in all ∙ sym (s.same ∙ opens_end m held tail (place + i) i h)

-- Looking for the end of the first attempt.
pub record Trying (m : LineMode) (tail : List ℕ) (place : ℕ) (reader : Reader) (i : ℕ) : Type 0 where
  pub most : i ≤ length tail
  pub same : attempt_of m Fresh tail place ≡ attempt_of m reader (drop i tail) (place + i)

try_start : (m : LineMode) (tail : List ℕ) (place : ℕ) → Trying m tail place Fresh 0
try_start m tail place = record { most = omega arith; same = ap (attempt_of m Fresh tail) (sym (add-zero place)) }

module _ (m : LineMode) (tail : List ℕ) (place : ℕ) (reader : Reader) (i : ℕ) (t : Trying m tail place reader i) where
  try_on : (next : Reader) → next ≡ (edge_of m reader (get_or tail i 0)).reader → (edge_of m reader (get_or tail i 0)).heard ≡ None → i < length tail
      → Trying m tail place next (i + 1)
  try_on next e n h =
      record {
        most = omega arith;
        same =
            t.same ∙ ap (λ (l : List ℕ). attempt_of m reader l (place + i)) (here tail i h)
            ∙ attempt_on m reader (get_or tail i 0) (drop (i + 1) tail) (place + i) n
            ∙ ap₂ (λ (r : Reader) (k : ℕ). attempt_of m r (drop (i + 1) tail) k) (sym e) (add_assoc place i 1);
      }

  pub tried : (next : Reader) (ending : Ending) → next ≡ (edge_of m reader (get_or tail i 0)).reader → (edge_of m reader (get_or tail i 0)).heard ≡ Some ending
      → i < length tail
      → attempt_of m Fresh tail place ≡ attempt ending (cond (is_open next) (place + i) (opens_at m next (drop (i + 1) tail) (place + (i + 1))))
  unfolding opens_at
  tried next ending e n h =
      t.same ∙ ap (λ (l : List ℕ). attempt_of m reader l (place + i)) (here tail i h)
      ∙ attempt_ends m reader (get_or tail i 0) (drop (i + 1) tail) (place + i) ending n
      ∙ ap₂ (λ (r : Reader) (k : ℕ). attempt ending (cond (is_open r) (place + i) (opens_at m r (drop (i + 1) tail) k))) (sym e) (add_assoc place i 1)

  pub ran_out : length tail ≤ i → attempt_of m Fresh tail place ≡ attempt (Err Cut) (place + length tail)
  ran_out h =
      let most = t.most in
      let all : place + i ≡ place + length tail = omega arith in t.same ∙ attempt_end m reader tail (place + i) i h ∙ ap (attempt (Err Cut)) all

-- The first edge opens the attempt,
pub try_first : (m : LineMode) (tail : List ℕ) (place : ℕ) → 1 ≤ length tail → Trying m tail place (Open 1 (get_or tail 0 0) 0) 1
unfolding edge_of
try_first m tail place h = try_on m tail place Fresh 0 (try_start m tail place) (Open 1 (get_or tail 0 0) 0) refl refl h

-- and each further one that says nothing leaves it open.
record StillOpen (x : ℕ) (r : Reader) : Type 0 where
  at : ℕ
  bits : ℕ
  is : r ≡ Open at x bits

still_open : (m : LineMode) (at bits x : ℕ) (j : Judgement) → (goes_on m at bits x j).heard ≡ None → StillOpen x (goes_on m at bits x j).reader
unfolding goes_on arrives
still_open m at bits x Quiet h = cc h
still_open m at bits x Unfit h = cc h
still_open m at bits x (Positions k) h = by (asks m at k) (eqb (at + k) 157) h
  where
    by : (a e : Bool) → (cond a (cond e (step (Some (page_end (with_bit at k bits))) (Dropping x)) (step None (Open (at + k) x (with_bit at k bits)))) (step (Some (Err Gap)) (Dropping x))).heard ≡ None
        → StillOpen x (cond a (cond e (step (Some (page_end (with_bit at k bits))) (Dropping x)) (step None (Open (at + k) x (with_bit at k bits)))) (step (Some (Err Gap)) (Dropping x))).reader
    by true true h = cc h
    by true false h = record { at = at + k; bits = with_bit at k bits; is = refl }
    by false e h = cc h

module _ (m : LineMode) (tail : List ℕ) (place at last bits i : ℕ) (t : Trying m tail place (Open at last bits) i) (h : i < length tail) where
  module _ (s : Step) (e : s ≡ edge_of m (Open at last bits) (get_or tail i 0)) (n : s.heard ≡ None) where
    held : StillOpen (get_or tail i 0) s.reader
    unfolding edge_of
    held =
        let o = still_open m at bits (get_or tail i 0) (judgement_of m (time_between (get_or tail i 0) last)) (ap (λ (q : Step). q.heard) (sym e) ∙ n) in
        record { at = o.at; bits = o.bits; is = ap (λ (q : Step). q.reader) e ∙ o.is }

    -- So the attempt's numbers after it are those that its reader holds,
    pub try_further : (p l b : ℕ) → s.reader ≡ Open p l b → Trying m tail place (Open p (get_or tail i 0) b) (i + 1)
    try_further p l b holds =
        let same : Open p l b ≡ Open held.at (get_or tail i 0) held.bits = sym holds ∙ held.is in
        let reading : l ≡ get_or tail i 0 = cc same in
        try_on m tail place (Open at last bits) i t (Open p (get_or tail i 0) b)
        (ap (λ (x : ℕ). Open p x b) (sym reading) ∙ sym holds ∙ ap (λ (q : Step). q.reader) e) (ap (λ (q : Step). q.heard) (sym e) ∙ n) h

    -- and it holds some.
    pub holds_numbers : ((p l b : ℕ) → s.reader ≡ Open p l b → ⊥) → ⊥
    holds_numbers none = none held.at (get_or tail i 0) held.bits held.is

-- While edges are dropped: each that opens nothing is the one before the next.
pub drops : (m : LineMode) (last x : ℕ) → edge_of m (Dropping last) x ≡ drops_on x (judgement_of m (time_between x last))
unfolding edge_of
drops m last x = refl

pub stays : (x : ℕ) (j : Judgement) → is_open (drops_on x j).reader ≡ false → (drops_on x j).reader ≡ Dropping x
unfolding drops_on
stays x Quiet h = cc h
stays x Unfit h = refl
stays x (Positions k) h = refl

opens_at_once : (m : LineMode) (l : List ℕ) (at : ℕ) → opens_at m Fresh l at ≡ at
unfolding opens_at edge_of
opens_at_once m [] at = refl
opens_at_once m (x ∷ rest) at = refl

pub first_opens : (m : LineMode) (tail : List ℕ) (place i : ℕ) → opens_at m Fresh (drop i tail) (place + i) ≡ place + i
first_opens m tail place i = opens_at_once m (drop i tail) (place + i)
