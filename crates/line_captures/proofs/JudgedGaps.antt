-- Gaps and windows, for lists of them: where windows lie apart, gaps near one to four positions are judged to be so many; and gaps that are
-- judged to be so many positions are one to four, and near them, for any numbers.
use mathlib.Core.Path.{◌≡◌, refl, ap₂, subst}
use mathlib.Core.Bool.{Bool, true, false, cond}
use mathlib.Core.List.{List, [], ◌∷◌, map, Forall₂}
use Prim.Native.Nat.{ℕ, zero, suc, ◌+◌, ◌*◌, ◌≤◌}
use native.Mathlib.Omega.{arith}
use lib.Dec.{leb}
use borrow.Author.Tests.{leb-true}
use Rattle.page_word.proofs.ComputedTest.{and_left, and_right}
use Rattle.line_mode.specs.declared.modes.LineMode.{LineMode}
use Rattle.line_mode.specs.declared.modes.Judgement.{Judgement}
use Rattle.line_mode.specs.declared.modes.Judgement.TheVariants.{Positions, Quiet, Unfit}
use Rattle.line_mode.specs.Gaps.{within, judgement_of}
use Rattle.line_mode.proofs.Windows.{Apart, Near, counts_one, counts_two, counts_three, counts_four}
use Rattle.line_captures.proofs.GapMachine.{passes, passed}

-- A gap near one to four positions is judged to be that many.
near_judged : (m : LineMode) (k gap : ℕ) → Apart m → 1 ≤ k → k ≤ 4 → Near m k gap → judgement_of m gap ≡ Positions k
near_judged m zero gap a l u h = absurd (omega arith)
near_judged m (suc zero) gap a l u h = counts_one m a gap h
near_judged m (suc (suc zero)) gap a l u h = counts_two m a gap h
near_judged m (suc (suc (suc zero))) gap a l u h = counts_three m a gap h
near_judged m (suc (suc (suc (suc zero)))) gap a l u h = counts_four m a gap h
near_judged m (suc (suc (suc (suc (suc k))))) gap a l u h = absurd (omega arith)

-- Counts that pass, and gaps near them.
pub all_judged : (m : LineMode) (p : ℕ) (ks times : List ℕ) → Apart m → passes m p ks ≡ true → Forall₂ (Near m) ks times
    → map (judgement_of m) times ≡ map Positions ks
all_judged m p ks times a h Forall₂.nil = refl
all_judged m p ks times a h (Forall₂.cons {a = k} {b = gap} {l₁ = later} {l₂ = rest} near further) =
    let c = passed m p k later h in
    ap₂ (λ (j : Judgement) (l : List Judgement). j ∷ l) (near_judged m k gap a c.least c.most near)
    (all_judged m (p + k) later rest a c.on further)

-- A gap that is judged to be so many positions.
pub record Counted (m : LineMode) (gap k : ℕ) : Type 0 where
  pub least : 1 ≤ k
  pub most : k ≤ 4
  pub near : Near m k gap

-- A gap within a window lies in it.
pub within_near : (m : LineMode) (k gap : ℕ) → within m k gap ≡ true → Near m k gap
within_near m k gap h =
    record {
      least = leb-true (k * m.spacing) (gap + m.tolerance) (and_left (leb (k * m.spacing) (gap + m.tolerance)) (leb gap (k * m.spacing + m.tolerance)) h);
      most = leb-true gap (k * m.spacing + m.tolerance) (and_right (leb (k * m.spacing) (gap + m.tolerance)) (leb gap (k * m.spacing + m.tolerance)) h);
    }

pub judged_counted : (m : LineMode) (gap k : ℕ) → judgement_of m gap ≡ Positions k → Counted m gap k
unfolding judgement_of
judged_counted m gap k =
    first 1 (omega arith) (omega arith) (within m 1 gap) refl _ (first 2 (omega arith) (omega arith) (within m 2 gap) refl _
    (first 3 (omega arith) (omega arith) (within m 3 gap) refl _ (first 4 (omega arith) (omega arith) (within m 4 gap) refl _ (none (leb m.quiet gap)))))
  where
    first : (j : ℕ) → 1 ≤ j → j ≤ 4 → (t : Bool) → within m j gap ≡ t → (others : Judgement) → (others ≡ Positions k → Counted m gap k)
        → cond t (Positions j) others ≡ Positions k → Counted m gap k
    first j l u true e others later h =
        let same : j ≡ k = cc h in subst (Counted m gap) same (record { least = l; most = u; near = within_near m j gap e })
    first j l u false e others later h = later h

    none : (t : Bool) → cond t Quiet Unfit ≡ Positions k → Counted m gap k
    none true h = cc h
    none false h = cc h

-- Gaps that are judged to be so many positions each.
pub all_near : (m : LineMode) (ks times : List ℕ) → map (judgement_of m) times ≡ map Positions ks → Forall₂ (Near m) ks times
all_near m [] [] h = Forall₂.nil
all_near m [] (t ∷ times) h = cc h
all_near m (k ∷ ks) [] h = cc h
all_near m (k ∷ ks) (t ∷ times) h = Forall₂.cons (judged_counted m t k (cc h)).near (all_near m ks times (cc h))
