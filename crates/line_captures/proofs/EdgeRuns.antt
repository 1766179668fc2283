-- Runs of edges: what is heard along them and the reader afterwards; and that edges carry a word just where their gaps are near those of its page.
use Rattle.line_reader.specs.Endings.{Heard}
use Rattle.std.specs.Prelude.{None}
use mathlib.Core.Path.{◌≡◌, refl, ap, ◌∙◌}
use mathlib.Core.Bool.{true}
use mathlib.Core.List.{List, [], ◌∷◌, ◌++◌, Forall₂}
use Prim.Native.Nat.{ℕ, suc, ◌-◌, ◌^◌, ◌<◌}
use native.Mathlib.Omega.{arith}
use lib.ListN.{length, replicate}
use Rattle.line_mode.specs.declared.modes.LineMode.{LineMode}
use Rattle.line_reader.specs.declared.reader.Reader.{Reader}
use Rattle.line_reader.specs.Reading.{heard_along, reader_after}
use Rattle.line_mode.specs.Gaps.{within}
use Rattle.line_mode.proofs.Windows.{Near, inside}
use Rattle.line_captures.specs.ReadingBack.{Carries, only_last}
use Rattle.line_captures.proofs.JudgedGaps.{within_near}

-- The last of a list that follows x; x itself if there is none.
abbrev pub last_of : ℕ → List ℕ → ℕ
last_of x [] = x
last_of x (y ∷ rest) = last_of y rest

-- Nothing n times, and then this.
abbrev pub after_silence : ℕ → Heard → List Heard
after_silence n heard = replicate n None ++ (heard ∷ [])

-- Where this is what edges bring, it comes at the last of them.
pub at_last : (m : LineMode) (r : Reader) (edges : List ℕ) (heard : Heard) → heard_along m r edges ≡ after_silence (length edges - 1) heard
    → heard_along m r edges ≡ only_last None edges heard
at_last m r [] heard h = cc h
at_last m r (x ∷ edges) heard h = h ∙ ap (λ (n : ℕ). after_silence n heard) (let e : suc (length edges) - 1 ≡ length edges = omega arith in e) ∙ same x edges
  where
    same : (x : ℕ) (edges : List ℕ) → after_silence (length edges) heard ≡ only_last None (x ∷ edges) heard
    same x [] = refl
    same x (y ∷ edges) = ap (λ (l : List Heard). None ∷ l) (same y edges)

-- Nothing is heard at any edge but the last, there this; and the reader afterwards.
pub record HeardLast (m : LineMode) (r : Reader) (edges : List ℕ) (heard : Heard) (after : Reader) : Type 0 where
  pub told : heard_along m r edges ≡ after_silence (length edges - 1) heard
  pub left : reader_after m r edges ≡ after

-- Edges that carry a word, which is one.
pub record Carried (m : LineMode) (w : ℕ) (edges : List ℕ) : Type 0 where
  pub word : w < 2 ^ 48
  pub carried : Carries m w edges

-- A gap in the window of so many positions.
abbrev pub InWindow : LineMode → ℕ → ℕ → Type 0
InWindow m k gap = within m k gap ≡ true

-- Gaps in their windows are near, and the other way round.
pub all_near : (m : LineMode) (ks times : List ℕ) → Forall₂ (InWindow m) ks times → Forall₂ (Near m) ks times
all_near m ks times Forall₂.nil = Forall₂.nil
all_near m ks times (Forall₂.cons {a = k} {b = gap} {l₁ = later} {l₂ = rest} h further) =
    Forall₂.cons (within_near m k gap h) (all_near m later rest further)

pub all_inside : (m : LineMode) (ks times : List ℕ) → Forall₂ (Near m) ks times → Forall₂ (InWindow m) ks times
all_inside m ks times Forall₂.nil = Forall₂.nil
all_inside m ks times (Forall₂.cons {a = k} {b = gap} {l₁ = later} {l₂ = rest} h further) =
    Forall₂.cons (inside m k gap h) (all_inside m later rest further)
