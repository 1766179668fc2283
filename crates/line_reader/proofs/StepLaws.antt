-- What a gap of k positions brings to an open attempt, by the position of its last edge; and that nothing opens below the quiet limit.
use Rattle.std.specs.Prelude.{Some, None, Err}
use mathlib.Core.Path.{◌≡◌, ◌∙◌, refl}
use mathlib.Core.Bool.{true, false, cond}
use Prim.Native.Nat.{ℕ, ◌+◌, ◌/◌, ◌%◌, ◌^◌, ◌<◌, ◌≤◌}
use native.Mathlib.Omega.{arith}
use lib.Dec.{eqb}
use borrow.Author.Tests.{le-leb, leb-true, eq-eqb, ne_eqb}
use Rattle.line_mode.specs.declared.modes.LineMode.{LineMode}
use Rattle.line_mode.specs.declared.modes.Judgement.{Judgement}
use Rattle.line_mode.specs.declared.modes.Judgement.TheVariants.{Positions, Quiet, Unfit}
use Rattle.line_mode.specs.Clock.{time_between}
use Rattle.line_mode.specs.Gaps.{judgement_of}
use Rattle.line_mode.proofs.Windows.{judged_quiet}
use Rattle.line_page.proofs.Positions.{clock, no_clock_start, no_clock_even, no_clock_past}
use Rattle.line_reader.specs.declared.endings.Broken.TheVariants.{Gap}
use Rattle.line_reader.specs.declared.reader.Reader.TheVariants.{Open, Dropping}
use Rattle.line_reader.specs.Pattern.{asks}
use Rattle.line_reader.specs.Reading.{step, page_end, arrives, goes_on, drops_on, edge_of}
use Rattle.line_reader.proofs.PatternLaws.{Small, after_bit, after_clock_law, after_155}

module _ (m : LineMode) (at k bits reading : ℕ) where
  -- A gap that the pattern does not ask for.
  pub wrong : asks m at k ≡ false → step (Some (Err Gap)) (Dropping reading) ≡ goes_on m at bits reading (Positions k)
  unfolding goes_on
  wrong h = rw h

  module _ (s : Small k) where
    pub in_start : at ≤ 26 → asks m at k ≡ true → step None (Open (at + k) reading bits) ≡ goes_on m at bits reading (Positions k)
    unfolding goes_on arrives
    in_start l h = rw (h, no_clock_start at l, ne_eqb (at + k) 157 (λ e. omega arith))

    pub at_bit : 26 < at → at ≤ 154 → at % 2 ≡ 0 → k ≡ 1 → step None (Open (at + k) reading bits) ≡ goes_on m at bits reading (Positions k)
    unfolding goes_on arrives
    at_bit h l e o = rw (after_bit m at k s h l e ∙ eq-eqb k 1 o, no_clock_even at e, ne_eqb (at + k) 157 (λ q. omega arith))

    pub at_clock : 26 < at → at ≤ 153 → at % 2 ≡ 1 → k ≤ 2
        → step None (Open (at + k) reading (bits / 2 + cond (eqb k 1) (2 ^ 63) 0)) ≡ goes_on m at bits reading (Positions k)
    unfolding goes_on arrives
    at_clock h l o t = rw (after_clock_law m at k s h l o ∙ le-leb k 2 t, clock at h l o, ne_eqb (at + k) 157 (λ q. omega arith))

    pub at_155 : at ≡ 155 → k ≡ 2 → step (Some (page_end bits)) (Dropping reading) ≡ goes_on m at bits reading (Positions k)
    unfolding goes_on arrives
    at_155 h t =
        let e : at + k ≡ 157 = omega arith in
        rw (after_155 m at k s h ∙ eq-eqb k 2 t, no_clock_past at (omega arith), eq-eqb (at + k) 157 e)

-- A gap below the quiet limit opens nothing, whatever it counts as.
pub not_quiet : (m : LineMode) (last reading : ℕ) → time_between reading last < m.quiet → step None (Dropping reading) ≡ edge_of m (Dropping last) reading
unfolding edge_of drops_on
not_quiet m last reading h = by (judgement_of m (time_between reading last)) refl
  where
    by : (j : Judgement) → judgement_of m (time_between reading last) ≡ j → step None (Dropping reading) ≡ drops_on reading j
    by (Positions k) e = refl
    by Quiet e = let quiet = leb-true m.quiet (time_between reading last) (judged_quiet m (time_between reading last) e) in absurd (omega arith)
    by Unfit e = refl
