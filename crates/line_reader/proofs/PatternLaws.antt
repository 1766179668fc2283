-- What the pattern asks, by kinds of positions: in the delimiter a span of a mask, computed; after a clock one or two positions, after a
-- bit one, after 155 two, and nothing elsewhere.
use mathlib.Core.Path.{◌≡◌, refl, sym, ap, ◌∙◌}
use mathlib.Core.Bool.{Bool, true, false, cond, not, ◌&&◌, beq, and-false}
use Prim.Native.Nat.{ℕ, zero, suc, ◌+◌, ◌-◌, ◌*◌, ◌/◌, ◌%◌, ◌^◌, ◌<◌, ◌≤◌}
use native.Mathlib.Nat.{mul_comm, pow-suc}
use native.Mathlib.Numerals.{add-one}
use native.Mathlib.Omega.{arith}
use lib.Dec.{leb, eqb}
use lib.Pow.{shl_exact}
use borrow.Author.Tests.{eqb-true, eqb-false, lt-leb}
use Rattle.page_word.proofs.ComputedTest.{every_below, at_each, beq_equal}
use Rattle.line_mode.specs.declared.modes.LineMode.{LineMode}
use Rattle.line_mode.specs.declared.modes.Judgement.TheVariants.{Positions, Quiet, Unfit}
use Rattle.line_mode.specs.Gaps.{within, judgement_of}
use Rattle.line_page.specs.Pattern.{is_clock, is_bit, always, stands_at, has}
use Rattle.line_page.proofs.Positions.{start_of, by_delimiter, at_odd, at_even, at_none}
use Rattle.line_reader.specs.Pattern.{free, asks}

-- A number from 1 to 4.
pub record Small (k : ℕ) : Type 0 where
  pub least : 1 ≤ k
  pub most : k ≤ 4

-- In the delimiter: of the mask's bits from `at` to `at + k` just the first and the last are one.
abbrev pub spans_mask : ℕ → ℕ → ℕ → Bool
spans_mask mask at k = eqb ((mask / 2 ^ at) % 2 ^ (k + 1)) (2 ^ k + 1)

abbrev alike : LineMode → ℕ → ℕ → Bool
alike m at j = beq (spans_mask (start_of m) at (j + 1)) (asks m at (j + 1))

computed : (m : LineMode) → every_below 27 (λ (at : ℕ). every_below 4 (alike m at)) ≡ true
unfolding asks stands_at is_clock is_bit
computed = by_delimiter (λ m. every_below 27 (λ (at : ℕ). every_below 4 (alike m at)) ≡ true) (λ s t q. refl) (λ s t q. refl)

by_span : (m : LineMode) (at k : ℕ) → at ≤ 26 → Small k → spans_mask (start_of m) at k ≡ asks m at k
by_span m at k l s =
    ap (λ (n : ℕ). spans_mask (start_of m) at n) back
    ∙ beq_equal (spans_mask (start_of m) at (k - 1 + 1)) (asks m at (k - 1 + 1))
    (at_each 4 (alike m at) (at_each 27 (λ (p : ℕ). every_below 4 (alike m p)) (computed m) at (omega arith)) (k - 1) (omega arith))
    ∙ ap (asks m at) (sym back)
  where
    back : k ≡ k - 1 + 1
    back = omega arith

-- The same of a mask that has been found.
pub span_asked : (m : LineMode) (at k mask : ℕ) (r : Bool) → at ≤ 26 → Small k → mask ≡ start_of m → r ≡ spans_mask mask at k → asks m at k ≡ r
span_asked m at k mask r l s e f = sym (f ∙ ap (λ (x : ℕ). spans_mask x at k) e ∙ by_span m at k l s)

-- A transition that every page has, between the two, rules the gap out.
blocked : (m : LineMode) (p n j : ℕ) → 1 ≤ j → j ≤ n → stands_at m (p + j) ≡ always → free m p n ≡ false
blocked m p zero j h l a = absurd (omega arith)
blocked m p (suc n) j h l a = by (blocked m p n j h) (eqb j (suc n)) refl
  where
    by : (j ≤ n → stands_at m (p + j) ≡ always → free m p n ≡ false) → (t : Bool) → eqb j (suc n) ≡ t
        → (not (has (stands_at m (p + suc n)) false) && free m p n) ≡ false
    by ih true e = rw (sym (ap (λ (i : ℕ). stands_at m (p + i)) (eqb-true j (suc n) e)) ∙ a)
    by ih false e =
        let ne = eqb-false j (suc n) e in
        rw (ih (omega arith) a) (and-false (not (has (stands_at m (p + suc n)) false)))

ruled_out : (m : LineMode) (at k j : ℕ) → 1 ≤ j → j < k → stands_at m (at + j) ≡ always → asks m at k ≡ false
unfolding asks
ruled_out m at zero j h l a = refl
ruled_out m at (suc n) j h l a =
    rw (blocked m at n j h (omega arith) a, and-false (has (stands_at m (at + suc n)) true)) (and-false (has (stands_at m at) true))

module _ (m : LineMode) (at k : ℕ) (s : Small k) where
  -- After a bit's own edge comes the next clock.
  pub after_bit : 26 < at → at ≤ 154 → at % 2 ≡ 0 → asks m at k ≡ eqb k 1
  unfolding asks
  after_bit h l e = by (eqb k 1) refl
    where
      by : (t : Bool) → eqb k 1 ≡ t → asks m at k ≡ eqb k 1
      by true q =
          ap (asks m at) (eqb-true k 1 q)
          ∙ rw (at_even m at h l e, at_odd m (at + 1) (omega arith) (omega arith) (omega arith)) (sym q)
      by false q =
          let ne = eqb-false k 1 q in
          ruled_out m at k 1 (omega arith) (omega arith) (at_odd m (at + 1) (omega arith) (omega arith) (omega arith)) ∙ sym q

  -- "after a clock, two positions is a zero, one is a one"
  pub after_clock_law : 26 < at → at ≤ 153 → at % 2 ≡ 1 → asks m at k ≡ leb k 2
  unfolding asks
  after_clock_law h l o = by (eqb k 1) refl (eqb k 2) refl
    where
      by : (t : Bool) → eqb k 1 ≡ t → (u : Bool) → eqb k 2 ≡ u → asks m at k ≡ leb k 2
      by true q u r =
          ap (asks m at) (eqb-true k 1 q)
          ∙ rw (at_odd m at h (omega arith) o, at_even m (at + 1) (omega arith) (omega arith) (omega arith))
          (sym (ap (λ (n : ℕ). leb n 2) (eqb-true k 1 q)))
      by false q true r =
          ap (asks m at) (eqb-true k 2 r)
          ∙ rw (at_odd m at h (omega arith) o, at_odd m (at + 2) (omega arith) (omega arith) (omega arith), at_even m (at + 1) (omega arith) (omega arith) (omega arith))
          (sym (ap (λ (n : ℕ). leb n 2) (eqb-true k 2 r)))
      by false q false r =
          let a = eqb-false k 1 q in
          let b = eqb-false k 2 r in
          ruled_out m at k 2 (omega arith) (omega arith) (at_odd m (at + 2) (omega arith) (omega arith) (omega arith))
          ∙ sym (lt-leb k 2 (omega arith))

  -- After 155 only 157 can come,
  pub after_155 : at ≡ 155 → asks m at k ≡ eqb k 2
  unfolding asks
  after_155 h = ap (λ (p : ℕ). asks m p k) h ∙ by (eqb k 1) refl (eqb k 2) refl
    where
      by : (t : Bool) → eqb k 1 ≡ t → (u : Bool) → eqb k 2 ≡ u → asks m 155 k ≡ eqb k 2
      by true q u r =
          ap (asks m 155) (eqb-true k 1 q)
          ∙ rw (at_odd m 155 (omega arith) (omega arith) refl, at_none m 156 (omega arith) (λ o. omega arith) (λ o. omega arith))
          (sym (ap (λ (n : ℕ). eqb n 2) (eqb-true k 1 q)))
      by false q true r =
          ap (asks m 155) (eqb-true k 2 r)
          ∙ rw (at_odd m 155 (omega arith) (omega arith) refl, at_odd m 157 (omega arith) (omega arith) refl, at_none m 156 (omega arith) (λ o. omega arith) (λ o. omega arith))
          (sym (ap (λ (n : ℕ). eqb n 2) (eqb-true k 2 r)))
      by false q false r =
          let a = eqb-false k 1 q in
          let b = eqb-false k 2 r in
          ruled_out m 155 k 2 (omega arith) (omega arith) (at_odd m 157 (omega arith) (omega arith) refl) ∙ sym r

  -- and from 156 on nothing.
  pub after_end : 155 < at → asks m at k ≡ false
  unfolding asks
  after_end h = by k (eqb at 157) refl
    where
      by : (n : ℕ) (t : Bool) → eqb at 157 ≡ t → asks m at n ≡ false
      by zero t q = refl
      by (suc n) true q =
          let e = eqb-true at 157 q in
          rw (at_none m (at + suc n) (omega arith) (λ o. omega arith) (λ o. omega arith)) (and-false (has (stands_at m at) true))
      by (suc n) false q = rw (at_none m at (omega arith) (λ o. omega arith) (eqb-false at 157 q))

-- What the code's shifts give.
pub two_shifted : (k : ℕ) → k < 63 → 2 * 2 ^ k % 2 ^ 64 ≡ 2 ^ (k + 1)
two_shifted k h =
    shl_exact {a = 2} 2 k 64 (omega arith) (omega arith) ∙ mul_comm 2 (2 ^ k) ∙ sym (pow-suc 2 k) ∙ ap (λ (n : ℕ). 2 ^ n) (sym (add-one k))

-- A gap that counts as k positions counts as 1 to 4.
pub counted_small : (m : LineMode) (gap k : ℕ) → judgement_of m gap ≡ Positions k → Small k
unfolding judgement_of
counted_small m gap k =
    by (within m 1 gap) (within m 2 gap) (within m 3 gap) (within m 4 gap) (leb m.quiet gap)
  where
    small : (n : ℕ) → 1 ≤ n → n ≤ 4 → Positions n ≡ Positions k → Small k
    small n l h e = let q : n ≡ k = cc e in record { least = omega arith; most = omega arith }

    by : (a b c d q : Bool)
        → cond a (Positions 1) (cond b (Positions 2) (cond c (Positions 3) (cond d (Positions 4) (cond q Quiet Unfit)))) ≡ Positions k → Small k
    by true b c d q e = small 1 (omega arith) (omega arith) e
    by false true c d q e = small 2 (omega arith) (omega arith) e
    by false false true d q e = small 3 (omega arith) (omega arith) e
    by false false false true q e = small 4 (omega arith) (omega arith) e
    by false false false false true e = cc e
    by false false false false false e = cc e
