-- What resolving answers on two pages that may stand in Complete: None, Roles or settled, with an ability of the order, which is a byte.
use Prim.Native.Nat.{ℕ, ◌^◌, ◌<◌}
use mathlib.Core.Path.{◌≡◌, refl}
use mathlib.Core.Bool.{Bool, true, false, cond, ◌&&◌, ◌||◌}
use mathlib.Core.List.{List, [], ◌∷◌}
use native.Mathlib.Omega.{arith}
use borrow.Author.Tests.{ltb-true}
use Rattle.answers.specs.Answers.{Said, refused, is_byte}
use Rattle.answers.specs.declared.Refusal.TheVariants.{Wide}
use Rattle.page_word.specs.Word.{is_wide, among}
use Rattle.page_word.proofs.ComputedTest.{and_left, and_right}
use Rattle.page_word.specs.Fields.{has_other_selector, is_tie}
use Rattle.page_resolve.specs.declared.roles.Role.{Role}
use Rattle.page_resolve.specs.declared.roles.Role.TheVariants.{Master, Slave}
use Rattle.std.specs.Prelude.{Option, Some, None, Err}
use Rattle.page_resolve.specs.Rates.{rate_order, is_common, common_of, first_of}
use Rattle.page_resolve.specs.Roles.{role_of}
use Rattle.page_resolve.specs.Resolving.{Resolution, settled_by, resolution_of, said_of}

-- The first common ability of an order of bytes is a byte.
abbrev Small : Option ℕ → Type 0
Small None = Unit {0}
Small (Some n) = n < 256

abbrev all_bytes : List ℕ → Bool
all_bytes [] = true
all_bytes (n ∷ order) = is_byte n && all_bytes order

first_small : (own partner : ℕ) (order : List ℕ) → all_bytes order ≡ true → Small (first_of (common_of order own partner))
first_small own partner [] small = tt
first_small own partner (n ∷ order) small =
    by (is_common own partner n) (first_small own partner order (and_right (is_byte n) (all_bytes order) small))
  where
    by : (t : Bool) → Small (first_of (common_of order own partner)) → Small (first_of (cond t (n ∷ common_of order own partner) (common_of order own partner)))
    by true rest = ltb-true n 256 (and_left (is_byte n) (all_bytes order) small)
    by false rest = rest

-- What resolving answers: None, Roles or settled.
pub record Settles (s : Said) : Type 0 where
  pub kind : among s.kind (8 ∷ 9 ∷ 0x82 ∷ []) ≡ true
  pub value : s.value < 2 ^ 48

settles : (rate : Option ℕ) (role : Option Role) → Small rate → Settles (said_of (settled_by rate role))
settles None role small = record { kind = refl; value = omega arith }
settles (Some n) None small = record { kind = refl; value = omega arith }
settles (Some n) (Some Master) small = record { kind = refl; value = omega (arith, small) }
settles (Some n) (Some Slave) small = record { kind = refl; value = omega (arith, small) }

-- Two pages with selector 1 and different nonces resolve to what is settled, or, if one is none of 48 bits, to Wide.
pub resolves : (own held : ℕ) → has_other_selector own ≡ false → has_other_selector held ≡ false → is_tie own held ≡ false
    → (s : Said) × (Settles s) × (said_of (resolution_of rate_order own held) ≡ cond (is_wide own || is_wide held) (refused Wide) s)
unfolding resolution_of
resolves own held a b tie = (
  said_of (settled_by (first_of (common_of rate_order own held)) (role_of own held)),
  settles (first_of (common_of rate_order own held)) (role_of own held) (first_small own held rate_order refl),
  rw (a, b, tie) (by (is_wide own || is_wide held) (settled_by (first_of (common_of rate_order own held)) (role_of own held))),
)
  where
    by : (t : Bool) (r : Resolution) → said_of (cond t (Err Wide) r) ≡ cond t (refused Wide) (said_of r)
    by true r = refl
    by false r = refl
