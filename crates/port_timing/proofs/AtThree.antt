-- "at three", with the page that was just sent: two or more were counted before it.
use Prim.Native.Nat.{ℕ, ◌+◌, ◌≤◌, ◌<◌}
use mathlib.Core.Path.{◌≡◌}
use mathlib.Core.Bool.{true, false}
use native.Mathlib.Omega.{arith}
use lib.Dec.{leb}
use borrow.Author.Tests.{le-leb, lt-leb}

pub at_three : (n : ℕ) → 2 ≤ n → leb 3 (n + 1) ≡ true
at_three n h = le-leb 3 (n + 1) (omega arith)

pub not_yet : (n : ℕ) → n < 2 → leb 3 (n + 1) ≡ false
not_yet n h = lt-leb 3 (n + 1) (omega arith)
