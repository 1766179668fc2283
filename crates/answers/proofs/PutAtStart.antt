-- Entries put at a list's start stand at its head, and behind them the old ones.
use mathlib.Core.Path.{◌≡◌, ap}
use mathlib.Core.List.{List, ◌++◌}
use Prim.Native.Nat.{ℕ}
use native.Mathlib.Nat.{zero-add}
use lib.ListN.{length, drop}
use Rattle.answers.specs.Answers.{put_at}

pub put_at_start : (entries list : List ℕ) → put_at 0 entries list ≡ entries ++ drop (length entries) list
put_at_start entries list = ap (λ (n : ℕ). entries ++ drop n list) (zero-add (length entries))
