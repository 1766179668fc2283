-- A test that antt computes at each number below n, and the law that turns it into a fact at each.
use mathlib.Core.Path.{◌≡◌, refl, subst, sym}
use mathlib.Core.Bool.{Bool, true, false, ◌&&◌, beq}
use Prim.Native.Nat.{ℕ, zero, suc, ◌<◌}
use native.Mathlib.Nat.{not-suc-le-zero}
use native.Mathlib.Omega.{arith}
use lib.Dec.{eqb}
use borrow.Author.Tests.{eqb-true, eqb-false}

abbrev pub every_below : ℕ → (ℕ → Bool) → Bool
every_below zero test = true
every_below (suc n) test = test n && every_below n test

pub and_left : (a b : Bool) → (a && b) ≡ true → a ≡ true
and_left true b h = refl
and_left false b h = h

pub and_right : (a b : Bool) → (a && b) ≡ true → b ≡ true
and_right true b h = h
and_right false b h = cc h

pub at_each : (n : ℕ) (test : ℕ → Bool) → every_below n test ≡ true → (k : ℕ) → k < n → test k ≡ true
at_each zero test h k l = absurd (not-suc-le-zero l)
at_each (suc n) test h k l = by (at_each n test (and_right (test n) (every_below n test) h) k) (eqb k n) refl
  where
    by : (k < n → test k ≡ true) → (t : Bool) → eqb k n ≡ t → test k ≡ true
    by below true e = subst (λ (j : ℕ). test j ≡ true) (sym (eqb-true k n e)) (and_left (test n) (every_below n test) h)
    by below false e = let ne = eqb-false k n e in below (omega arith)

-- Two Bools that are found equal are.
pub beq_equal : (a b : Bool) → beq a b ≡ true → a ≡ b
beq_equal true true h = refl
beq_equal true false h = sym h
beq_equal false true h = h
beq_equal false false h = refl
