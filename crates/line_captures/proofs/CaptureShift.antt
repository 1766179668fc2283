-- The clock's shift, of captures: one whose readings are all later by δ modulo 2^32 is answered alike.
use Rattle.std.specs.Prelude.{Err}
use mathlib.Core.Path.{◌≡◌, refl, ap, ap₂, ◌∙◌}
use mathlib.Core.Bool.{Bool, cond}
use mathlib.Core.List.{List, [], ◌∷◌, map}
use Prim.Native.Nat.{ℕ, ◌+◌, ◌%◌, ◌^◌}
use Rattle.line_mode.specs.declared.modes.LineMode.{LineMode}
use Rattle.line_reader.specs.declared.reader.Step.{Step}
use Rattle.line_reader.specs.declared.reader.Reader.{Reader}
use Rattle.line_reader.specs.declared.reader.Reader.TheVariants.{Fresh, Open, Dropping}
use Rattle.line_reader.specs.declared.endings.Broken.TheVariants.{Cut}
use Rattle.line_reader.specs.Reading.{edge_of}
use Rattle.line_reader.proofs.ClockShift.{later, edge_later}
use Rattle.line_captures.specs.Captures.{is_open, opens_at, ends_at, attempt_of, ReadOutcome, attempt}

-- A capture whose readings are all later by δ.
abbrev pub all_later : ℕ → List ℕ → List ℕ
all_later δ capture = map (λ x. (x + δ) % 2 ^ 32) capture

-- An attempt is open, and opens at a place, as it does earlier;
open_later : (δ : ℕ) (r : Reader) → is_open (later δ r) ≡ is_open r
open_later δ Fresh = refl
open_later δ (Open at last bits) = refl
open_later δ (Dropping last) = refl

opens_later : (m : LineMode) (δ : ℕ) (r : Reader) (capture : List ℕ) (at : ℕ) → opens_at m (later δ r) (all_later δ capture) at ≡ opens_at m r capture at
unfolding opens_at
opens_later m δ r [] at = refl
opens_later m δ r (x ∷ rest) at =
    ap (λ (b : Step). cond (is_open b.reader) at (opens_at m b.reader (all_later δ rest) (at + 1))) (edge_later m δ r x)
    ∙ ap₂ (λ (t : Bool) (n : ℕ). cond t at n) (open_later δ (edge_of m r x).reader) (opens_later m δ (edge_of m r x).reader rest (at + 1))

-- and the capture is answered alike.
pub attempt_later : (m : LineMode) (δ : ℕ) (r : Reader) (capture : List ℕ) (at : ℕ)
    → attempt_of m (later δ r) (all_later δ capture) at ≡ attempt_of m r capture at
unfolding attempt_of
attempt_later m δ r [] at = ap (attempt (Err Cut)) (opens_later m δ r [] at)
attempt_later m δ r (x ∷ rest) at =
    ap₂ (λ (b : Step) (n : ℕ). ends_at b.heard (attempt_of m b.reader (all_later δ rest) (at + 1)) n) (edge_later m δ r x) (opens_later m δ r (x ∷ rest) at)
    ∙ ap (λ (o : ReadOutcome). ends_at (edge_of m r x).heard o (opens_at m r (x ∷ rest) at)) (attempt_later m δ (edge_of m r x).reader rest (at + 1))
