-- The part of a list from a place on, as it is lent.
use Rattle.std.proofs.Common.{◌≡◌, ℕ, ◌-◌, List, length, take, drop, arith, length-drop, take_all}

pub whole_tail : (l : List ℕ) (place : ℕ) → take (length l - place) (drop place l) ≡ drop place l
whole_tail l place = take_all (length l - place) (drop place l) (omega (arith, length-drop place l))
