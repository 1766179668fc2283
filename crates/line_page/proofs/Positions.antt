-- What stands at a position, by its kind: in the delimiter by the mode's list, then at odd positions a transition and at even ones a bit, up to
-- the end. What a law says of both delimiters holds of every mode.
use Rattle.std.specs.Prelude.{if◌then◌else◌}
use mathlib.Core.Path.{◌≡◌, refl}
use mathlib.Core.Bool.{Bool, true, false, and-false}
use mathlib.Core.List.{[], ◌∷◌, ◌++◌}
use Prim.Native.Nat.{ℕ, ◌%◌, ◌<◌, ◌≤◌}
use native.Mathlib.Omega.{arith}
use lib.Dec.{leb, eqb}
use borrow.Author.Tests.{leb-true, leb-false, eqb-false, le-leb, lt-leb, eq-eqb, ne_eqb}
use Rattle.page_word.specs.Word.{among}
use Rattle.line_mode.specs.declared.modes.LineMode.{LineMode}
use Rattle.line_page.specs.Pattern.{delimiter_of, mask_of, is_clock, is_bit, always, by_bit, never, stands_at}

-- The mask of a mode's delimiter and of the first clock.
abbrev pub start_of : LineMode → ℕ
start_of m = mask_of (delimiter_of m ++ (27 ∷ []))

-- A mode, by its delimiter.
pub by_delimiter : (P : LineMode → Type 0)
    → ((s t q : ℕ) → P (record { spacing = s; tolerance = t; quiet = q; slow = true }))
    → ((s t q : ℕ) → P (record { spacing = s; tolerance = t; quiet = q; slow = false }))
    → (m : LineMode) → P m
by_delimiter P low high m = by m.slow
  where
    by : (slow : Bool) → P (record { spacing = m.spacing; tolerance = m.tolerance; quiet = m.quiet; slow = slow })
    by true = low m.spacing m.tolerance m.quiet
    by false = high m.spacing m.tolerance m.quiet

-- The clocks and the bits.
module _ (p : ℕ) where
  pub clock : 26 < p → p ≤ 153 → p % 2 ≡ 1 → is_clock p ≡ true
  unfolding is_clock
  clock h l o = rw (le-leb 27 p h, le-leb p 153 l, eq-eqb (p % 2) 1 o)

  pub no_clock_even : p % 2 ≡ 0 → is_clock p ≡ false
  unfolding is_clock
  no_clock_even e = rw (ne_eqb (p % 2) 1 (λ o. omega arith), and-false (leb p 153)) (and-false (leb 27 p))

  pub no_clock_start : p ≤ 26 → is_clock p ≡ false
  unfolding is_clock
  no_clock_start h = let l : p < 27 = omega arith in rw (lt-leb 27 p l)

  pub no_clock_past : 153 < p → is_clock p ≡ false
  unfolding is_clock
  no_clock_past h = rw (lt-leb p 153 h) (and-false (leb 27 p))

  no_bit_odd : p % 2 ≡ 1 → is_bit p ≡ false
  unfolding is_bit
  no_bit_odd o = rw (eq-eqb (p % 2) 1 o, and-false (leb p 154)) (and-false (leb 28 p))

  no_bit_past : 154 < p → is_bit p ≡ false
  unfolding is_bit
  no_bit_past h = rw (lt-leb p 154 h) (and-false (leb 28 p))

  bit_even : 26 < p → p ≤ 154 → p % 2 ≡ 0 → is_bit p ≡ true
  unfolding is_bit
  bit_even h l e = let a : 28 ≤ p = omega arith in rw (le-leb 28 p a, le-leb p 154 l, ne_eqb (p % 2) 1 (λ o. omega arith))

module _ (m : LineMode) (p : ℕ) where
  pub in_delimiter : p ≤ 26 → stands_at m p ≡ (if among p (delimiter_of m) then always else never)
  unfolding stands_at
  in_delimiter h = rw (le-leb p 26 h)

  pub at_odd : 26 < p → p ≤ 157 → p % 2 ≡ 1 → stands_at m p ≡ always
  unfolding stands_at
  at_odd h l o = by (leb p 153) refl
    where
      end : 153 < p → (t : Bool) → eqb p 155 ≡ t → stands_at m p ≡ always
      end g true e = rw (lt-leb p 26 h, no_clock_past p g, no_bit_odd p o, e)
      end g false e =
          let n = eqb-false p 155 e in
          let s : p ≡ 157 = omega arith in rw (lt-leb p 26 h, no_clock_past p g, no_bit_odd p o, e, eq-eqb p 157 s)

      by : (t : Bool) → leb p 153 ≡ t → stands_at m p ≡ always
      by true e = rw (lt-leb p 26 h, clock p h (leb-true p 153 e) o)
      by false e = end (leb-false p 153 e) (eqb p 155) refl

  pub at_even : 26 < p → p ≤ 154 → p % 2 ≡ 0 → stands_at m p ≡ by_bit
  unfolding stands_at
  at_even h l e = rw (lt-leb p 26 h, no_clock_even p e, bit_even p h l e)

  -- Beyond 154 no page has one but at 155 and 157.
  pub at_none : 154 < p → (p ≡ 155 → ⊥) → (p ≡ 157 → ⊥) → stands_at m p ≡ never
  unfolding stands_at
  at_none h a b =
      let s : 26 < p = omega arith in
      let c : 153 < p = omega arith in rw (lt-leb p 26 s, no_clock_past p c, no_bit_past p h, ne_eqb p 155 a, ne_eqb p 157 b)
