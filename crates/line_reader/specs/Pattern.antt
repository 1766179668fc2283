-- 01, "The line": "Each further gap must be what the pattern asks".
use Rattle.std.specs.Prelude.{ℕ, zero, suc, ◌+◌, Bool, true, false, not, ◌&&◌}
use Rattle.line_mode.specs.declared.modes.LineMode.{LineMode}
use Rattle.line_page.specs.Pattern.{stands_at, has}

-- Whether none of the n positions after p is one where every page has a transition, also one with a zero bit there.
abbrev pub free : (mode : LineMode) (p n : ℕ) → Bool
free mode p zero = true
free mode p (suc n) = not (has (stands_at mode (p + suc n)) false) && free mode p n

-- A gap of n + 1 positions after an edge at p: a page, one with one bits there, has edges at both its ends, and at none of the n positions between
-- them does every page have one. Two positions after a clock pass over its bit. Where no page has an edge at p, on a record that no call
-- has made, no gap is right. No gap has 0 positions.
unfoldable pub asks : (mode : LineMode) (p k : ℕ) → Bool
asks mode p zero = false
asks mode p (suc n) = has (stands_at mode p) true && (has (stands_at mode (p + suc n)) true && free mode p n)
