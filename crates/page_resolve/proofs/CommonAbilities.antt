-- The search for the first common ability: what is passed was not common, so what is left to find stays the same.
use mathlib.Core.Path.{◌≡◌, ap}
use mathlib.Core.Bool.{true, false, and-false}
use mathlib.Core.List.{List, ◌∷◌}
use Prim.Native.Nat.{ℕ, ◌≤◌}
use native.Mathlib.Nat.{div-eq_of_lt, lt_of_lt_of_le}
use lib.Pow.{pow_mono}
use Rattle.std.specs.Prelude.{Some}
use Rattle.page_word.specs.Word.{odd}
use Rattle.page_word.proofs.FieldLaws.{part_below}
use Rattle.page_resolve.specs.Rates.{has_ability, is_common, common_of, first_of}

-- There is no ability from A27 on.
pub none_past : (word n : ℕ) → 27 ≤ n → has_ability word n ≡ false
unfolding has_ability
none_past word n h = ap odd (div-eq_of_lt (lt_of_lt_of_le (part_below 21 27 word) (pow_mono {j = n} h)))

-- Common is what both have,
pub both_have : (own partner n : ℕ) → has_ability own n ≡ true → has_ability partner n ≡ true → is_common own partner n ≡ true
both_have own partner n h k = rw (h, k)

-- and not what one lacks.
pub own_lacks : (own partner n : ℕ) → has_ability own n ≡ false → is_common own partner n ≡ false
own_lacks own partner n h = rw h

pub partner_lacks : (own partner n : ℕ) → has_ability partner n ≡ false → is_common own partner n ≡ false
partner_lacks own partner n h = rw h (and-false (has_ability own n))

-- Whether the first of a list is common decides whether it is the first of the common ones.
pub first_yes : (n : ℕ) (rest : List ℕ) (own partner : ℕ) → is_common own partner n ≡ true → first_of (common_of (n ∷ rest) own partner) ≡ Some n
first_yes n rest own partner h = rw h

pub first_no : (n : ℕ) (rest : List ℕ) (own partner : ℕ) → is_common own partner n ≡ false → common_of (n ∷ rest) own partner ≡ common_of rest own partner
first_no n rest own partner h = rw h
