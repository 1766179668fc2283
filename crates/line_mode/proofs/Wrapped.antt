-- How far a gap reaches into a window, wrapped: at most the window's width just where the gap lies in the window. And a gap's judgement, by the
-- windows that it does not lie in.
use Rattle.std.proofs.Common.{◌≡◌, ℕ, zero, suc, ◌+◌, ◌*◌, ◌%◌, ◌^◌, ◌<◌, ◌≤◌, Bool, true, false, ◌&&◌, if◌then◌else◌, leb, refl, arith, le-leb, leb-true, below_more}
use Rattle.std.proofs.Math.Nat.{mul-le-mul_right}
use borrow.Author.Tests.{lt-leb}
use Rattle.answers.specs.Choices.{◌≤?◌}
use Rattle.line_mode.specs.declared.modes.LineMode.{LineMode}
use Rattle.line_mode.specs.declared.modes.Judgement.TheVariants.{Positions, Quiet, Unfit}
use Rattle.line_mode.specs.Gaps.{within, judgement_of}

-- A number so far into the window of k positions that the window's beginning and it come to the gap and the tolerance.
pub record Into (m : LineMode) (k gap x : ℕ) : Type 0 where
  pub wraps : (x + k * m.spacing) % 2 ^ 64 ≡ gap + m.tolerance
  pub fits : x < 2 ^ 64
  pub small : gap + m.tolerance < 2 ^ 34
  pub centre : k * m.spacing < 2 ^ 35

module _ {m : LineMode} {k gap x : ℕ} (h : Into m k gap x) where
  pub in_window : x ≤ 2 * m.tolerance → within m k gap ≡ true
  in_window l = let a : k * m.spacing ≤ gap + m.tolerance = omega arith in let b : gap ≤ k * m.spacing + m.tolerance = omega arith in rw (le-leb (k * m.spacing) (gap + m.tolerance) a, le-leb gap (k * m.spacing + m.tolerance) b)

  pub off_window : 2 * m.tolerance < x → within m k gap ≡ false
  off_window l = by (leb (k * m.spacing) (gap + m.tolerance)) refl
    where
      by : (t : Bool) → leb (k * m.spacing) (gap + m.tolerance) ≡ t → (t && leb gap (k * m.spacing + m.tolerance)) ≡ false
      by true e = let a = leb-true (k * m.spacing) (gap + m.tolerance) e in let b : k * m.spacing + m.tolerance < gap = omega arith in lt-leb gap (k * m.spacing + m.tolerance) b
      by false e = refl

-- A gap that lies in no window of less than k positions, and how far it reaches into the last of them.
pub record Passed (m : LineMode) (k gap x : ℕ) : Type 0 where
  pub wraps : (x + k * m.spacing) % 2 ^ 64 ≡ gap + m.tolerance + m.spacing
  pub off : (j : ℕ) → j < k → 1 ≤ j → within m j gap ≡ false

pub none_passed : (m : LineMode) (gap x : ℕ) → x ≡ gap + m.tolerance → x < 2 ^ 34 → m.spacing < 2 ^ 32 → Passed m 1 gap x
none_passed m gap x e small spacing = record { wraps = omega arith; off = λ j below least. absurd (omega arith) }

module _ (m : LineMode) (k gap x y : ℕ) (p : Passed m k gap x) (most : k < 5) (w : (y + m.spacing) % 2 ^ 64 ≡ x) (f : y < 2 ^ 64)
    (small : gap + m.tolerance < 2 ^ 34) (spacing : m.spacing < 2 ^ 32) where
  -- One spacing less in the next one.
  into : Into m k gap y
  into =
      let up : k * m.spacing ≤ 4 * m.spacing = mul-le-mul_right m.spacing (omega arith) in
      let wraps = p.wraps in record { wraps = omega arith; fits = f; small = small; centre = omega arith }

  -- It is the gap's,
  pub judged : 1 ≤ k → y ≤ 2 * m.tolerance → Positions k ≡ judgement_of m gap
  unfolding judgement_of
  judged least l = by k least most p.off (in_window into l)
    where
      by : (k : ℕ) → 1 ≤ k → k < 5 → ((j : ℕ) → j < k → 1 ≤ j → within m j gap ≡ false) → within m k gap ≡ true → Positions k ≡ judgement_of m gap
      by zero one five off here = absurd (omega arith)
      by (suc zero) one five off here = rw here
      by (suc (suc zero)) one five off here = rw (off 1 (omega arith) (omega arith), here)
      by (suc (suc (suc zero))) one five off here = rw (off 1 (omega arith) (omega arith), off 2 (omega arith) (omega arith), here)
      by (suc (suc (suc (suc zero)))) one five off here =
          rw (off 1 (omega arith) (omega arith), off 2 (omega arith) (omega arith), off 3 (omega arith) (omega arith), here)
      by (suc (suc (suc (suc (suc k))))) one five off here = absurd (omega arith)

  -- or it is passed too.
  pub one_passed : 2 * m.tolerance < y → Passed m (k + 1) gap y
  one_passed l =
      let wraps = p.wraps in
      record { wraps = omega arith; off = below_more (λ j. 1 ≤ j → within m j gap ≡ false) k p.off (λ least. off_window into l) }

-- Beyond the four windows it is quiet or unfit.
pub beyond : (m : LineMode) (k gap x : ℕ) → Passed m k gap x → 5 ≤ k → (if m.quiet ≤? gap then Quiet else Unfit) ≡ judgement_of m gap
unfolding judgement_of
beyond m k gap x p h =
    rw (
      p.off 1 (omega arith) (omega arith),
      p.off 2 (omega arith) (omega arith),
      p.off 3 (omega arith) (omega arith),
      p.off 4 (omega arith) (omega arith),
    )
