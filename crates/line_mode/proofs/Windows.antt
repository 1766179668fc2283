-- Judging over any numbers whose windows lie apart: each window is its own k's alone, and quiet begins above the last. And over any numbers:
-- below the quiet limit no gap is quiet.
use Rattle.std.proofs.Common.{◌≡◌, refl, ℕ, ◌+◌, ◌*◌, ◌<◌, ◌≤◌, true, false, leb, arith, le-leb}
use mathlib.Core.Bool.{Bool, cond, and-false}
use borrow.Author.Tests.{lt-leb}
use Rattle.line_mode.specs.declared.modes.LineMode.{LineMode}
use Rattle.line_mode.specs.declared.modes.Judgement.{Judgement}
use Rattle.line_mode.specs.declared.modes.Judgement.TheVariants.{Positions, Quiet, Unfit}
use Rattle.line_mode.specs.Modes.{hsm_mode, lsm_mode}
use Rattle.line_mode.specs.Gaps.{within, judgement_of}

-- The two facts that keep windows apart.
pub record Apart (m : LineMode) : Type 0 where
  pub narrow : 2 * m.tolerance < m.spacing
  pub above : 4 * m.spacing + m.tolerance < m.quiet

pub hsm_apart : Apart hsm_mode
hsm_apart = record { narrow = omega arith; above = omega arith }

pub lsm_apart : Apart lsm_mode
lsm_apart = record { narrow = omega arith; above = omega arith }

-- A gap in the window of k positions, ends included.
pub record Near (m : LineMode) (k gap : ℕ) : Type 0 where
  pub least : k * m.spacing ≤ gap + m.tolerance
  pub most : gap ≤ k * m.spacing + m.tolerance

pub inside : (m : LineMode) (k gap : ℕ) → Near m k gap → within m k gap ≡ true
inside m k gap h = rw (le-leb (k * m.spacing) (gap + m.tolerance) h.least, le-leb gap (k * m.spacing + m.tolerance) h.most)

over : (m : LineMode) (k gap : ℕ) → k * m.spacing + m.tolerance < gap → within m k gap ≡ false
over m k gap h = rw (lt-leb gap (k * m.spacing + m.tolerance) h) (and-false (leb (k * m.spacing) (gap + m.tolerance)))

module _ (m : LineMode) (a : Apart m) (gap : ℕ) where
  pub counts_one : Near m 1 gap → judgement_of m gap ≡ Positions 1
  unfolding judgement_of
  counts_one h = rw (inside m 1 gap h)

  pub counts_two : Near m 2 gap → judgement_of m gap ≡ Positions 2
  unfolding judgement_of
  counts_two h = rw (over m 1 gap (omega arith), inside m 2 gap h)

  pub counts_three : Near m 3 gap → judgement_of m gap ≡ Positions 3
  unfolding judgement_of
  counts_three h = rw (over m 1 gap (omega arith), over m 2 gap (omega arith), inside m 3 gap h)

  pub counts_four : Near m 4 gap → judgement_of m gap ≡ Positions 4
  unfolding judgement_of
  counts_four h = rw (over m 1 gap (omega arith), over m 2 gap (omega arith), over m 3 gap (omega arith), inside m 4 gap h)

  pub counts_quiet : m.quiet ≤ gap → judgement_of m gap ≡ Quiet
  unfolding judgement_of
  counts_quiet h =
      rw (over m 1 gap (omega arith), over m 2 gap (omega arith), over m 3 gap (omega arith), over m 4 gap (omega arith), le-leb m.quiet gap h)

-- A gap that is judged quiet is at the quiet limit or more.
pub judged_quiet : (m : LineMode) (gap : ℕ) → judgement_of m gap ≡ Quiet → leb m.quiet gap ≡ true
unfolding judgement_of
judged_quiet m gap = none 1 (within m 1 gap) _ (none 2 (within m 2 gap) _ (none 3 (within m 3 gap) _ (none 4 (within m 4 gap) _ (last (leb m.quiet gap)))))
  where
    none : (k : ℕ) (t : Bool) (others : Judgement) → (others ≡ Quiet → leb m.quiet gap ≡ true) → cond t (Positions k) others ≡ Quiet → leb m.quiet gap ≡ true
    none k true others later h = cc h
    none k false others later h = later h

    last : (t : Bool) → cond t Quiet Unfit ≡ Quiet → t ≡ true
    last true h = refl
    last false h = cc h
