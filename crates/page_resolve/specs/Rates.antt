-- 01, "Rate and role": "Common bits, first in this order: A6 25GBASE-T1, A5 10G, A4 5G, A3 2.5G, A2 1000BASE-T1, A0 100BASE-T1, A1 10BASE-T1S
-- full, A9 10BASE-T1L, A22 10BASE-T1S half. All others are ignored."
use Rattle.std.specs.Prelude.{ℕ, Bool, ◌&&◌, List, [], ◌∷◌, if◌then◌else◌, Option, Some, None}
use Rattle.page_word.specs.Word.{has_bit}
use Rattle.page_word.specs.Fields.{field_of}
use Rattle.page_word.specs.declared.fields.Field.TheVariants.{Abilities}

-- The numbers n of the abilities An, in that order. An ability that is not in the list is never looked at.
abbrev pub rate_order : List ℕ
rate_order = 6 ∷ 5 ∷ 4 ∷ 3 ∷ 2 ∷ 0 ∷ 1 ∷ 9 ∷ 22 ∷ []

-- Whether a word has the ability An, the lowest bit of the field being A0. From A27 on there is none: the field has no such bit.
unfoldable pub has_ability : (word n : ℕ) → Bool
has_ability word n = has_bit (field_of Abilities word) n

-- "Common bits": both words have it.
abbrev pub is_common : (own partner n : ℕ) → Bool
is_common own partner n = has_ability own n && has_ability partner n

-- The common ones of an ordered list, in its order.
abbrev pub common_of : (order : List ℕ) (own partner : ℕ) → List ℕ
common_of [] own partner = []
common_of (n ∷ order) own partner = let rest = common_of order own partner in if is_common own partner n then n ∷ rest else rest

-- "first in this order", if there is one.
abbrev pub first_of : List ℕ → Option ℕ
first_of [] = None
first_of (n ∷ rest) = Some n
