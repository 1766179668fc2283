-- How a definition chooses: tests on numbers that are written as one reads them. What it chooses by is the library's `if .. then .. else ..`.
use Rattle.std.specs.Prelude.{ℕ, Bool, leb, ltb, eqb}

-- Whether one number is at most another, less than it, the same.
infix 40 ◌≤?◌
abbrev pub ◌≤?◌ : ℕ → ℕ → Bool
a ≤? b = leb a b

infix 40 ◌<?◌
abbrev pub ◌<?◌ : ℕ → ℕ → Bool
a <? b = ltb a b

infix 40 ◌=?◌
abbrev pub ◌=?◌ : ℕ → ℕ → Bool
a =? b = eqb a b
