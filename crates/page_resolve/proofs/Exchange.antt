-- The two ends never disagree: with the two words exchanged, the same ability is settled with the opposite role, and each
-- refusal is the same. Over any ordered list.
use mathlib.Core.Path.{◌≡◌, refl, sym, ap, ap₂, ◌∙◌}
use mathlib.Core.Bool.{Bool, true, false, not, cond, ◌||◌, and_comm, or_comm}
use mathlib.Core.List.{List, [], ◌∷◌}
use Prim.Native.Nat.{ℕ}
use native.Mathlib.Omega.{arith}
use lib.Dec.{eqb, ltb}
use borrow.Author.Tests.{eq-eqb, ne_eqb, eqb-true, eqb-false, ltb-true, ltb-false, lt-ltb, le-ltb}
use Rattle.page_word.specs.Fields.{field_of, has_other_selector, is_tie}
use Rattle.page_word.specs.declared.fields.Field.TheVariants.{Nonce}
use Rattle.std.specs.Prelude.{Option, Some, None, Ok, Err}
use Rattle.answers.specs.declared.Refusal.TheVariants as refusal
use Rattle.page_resolve.specs.declared.roles.Role.{Role}
use Rattle.page_resolve.specs.declared.roles.Role.TheVariants.{Master, Slave}
use Rattle.page_resolve.specs.Rates.{has_ability, common_of, first_of}
use Rattle.page_resolve.specs.Roles.{is_forced, has_t4, is_higher, master_if, both_forced, role_by, role_of}
use Rattle.page_word.specs.Word.{is_wide}
use Rattle.page_resolve.specs.Resolving.{Resolution, rate_and_role, settled_by, resolution_of}

-- What the other end answers.
abbrev pub opposite : Resolution → Resolution
opposite (Err refused) = Err refused
opposite (Ok here) = rate_and_role here.ability (not here.master)

abbrev pub other_role : Option Role → Option Role
other_role (Some Master) = Some Slave
other_role (Some Slave) = Some Master
other_role None = None

same_common : (order : List ℕ) (own partner : ℕ) → common_of order partner own ≡ common_of order own partner
same_common [] own partner = refl
same_common (n ∷ order) own partner =
    ap₂ (λ (t : Bool) (rest : List ℕ). cond t (n ∷ rest) rest) (and_comm (has_ability partner n) (has_ability own n)) (same_common order own partner)

same_tie : (a b : ℕ) → eqb b a ≡ eqb a b
same_tie a b = by (eqb a b) refl
  where
    by : (t : Bool) → eqb a b ≡ t → eqb b a ≡ t
    by true e = eq-eqb b a (sym (eqb-true a b e))
    by false e = ne_eqb b a (λ z. eqb-false a b e (sym z))

-- Of two different numbers just one is the higher.
one_higher : (a b : ℕ) → eqb a b ≡ false → ltb a b ≡ not (ltb b a)
one_higher a b h = by (ltb b a) refl
  where
    by : (t : Bool) → ltb b a ≡ t → ltb a b ≡ not t
    by true e = let l = ltb-true b a e in le-ltb a b (omega arith)
    by false e = let l = ltb-false b a e in let n = eqb-false a b h in lt-ltb a b (omega arith)

other_side : (t : Bool) → Some (master_if (not t)) ≡ other_role (Some (master_if t))
other_side true = refl
other_side false = refl

other_side_back : (t : Bool) → Some (master_if t) ≡ other_role (Some (master_if (not t)))
other_side_back true = refl
other_side_back false = refl

both_other : (a b : Bool) → both_forced b a ≡ other_role (both_forced a b)
both_other true true = refl
both_other true false = refl
both_other false true = refl
both_other false false = refl

role_by_law : (f g : Bool) (own partner : ℕ) → is_tie own partner ≡ false → role_by g f partner own ≡ other_role (role_by f g own partner)
role_by_law false false own partner h = ap (λ (t : Bool). Some (master_if t)) (one_higher (field_of Nonce own) (field_of Nonce partner) h) ∙ other_side (is_higher own partner)
role_by_law true false own partner h = other_side (has_t4 own)
role_by_law false true own partner h = other_side_back (has_t4 partner)
role_by_law true true own partner h = both_other (has_t4 own) (has_t4 partner)

-- Where T differs, one end's role is the other's opposite, and a fault is one for both.
pub role_exchanged : (own partner : ℕ) → is_tie own partner ≡ false → role_of partner own ≡ other_role (role_of own partner)
unfolding role_of
role_exchanged own partner h = role_by_law (is_forced own) (is_forced partner) own partner h

settled_other : (rate : Option ℕ) (role : Option Role) → settled_by rate (other_role role) ≡ opposite (settled_by rate role)
settled_other None role = refl
settled_other (Some n) (Some Master) = refl
settled_other (Some n) (Some Slave) = refl
settled_other (Some n) None = refl

-- The first three refusals, and what follows them.
abbrev guarded : Bool → Bool → Bool → Resolution → Resolution
guarded wide other tie x = cond wide (Err refusal.Wide) (cond other (Err refusal.Selector) (cond tie (Err refusal.Tie) x))

guarded_other : (wide other tie : Bool) (x y : Resolution) → (tie ≡ false → y ≡ opposite x) → guarded wide other tie y ≡ opposite (guarded wide other tie x)
guarded_other true other tie x y h = refl
guarded_other false true tie x y h = refl
guarded_other false false true x y h = refl
guarded_other false false false x y h = h refl

pub exchanged : (order : List ℕ) (own partner : ℕ) → resolution_of order partner own ≡ opposite (resolution_of order own partner)
unfolding resolution_of
exchanged order own partner =
    rw (or_comm (is_wide partner) (is_wide own), or_comm (has_other_selector partner) (has_other_selector own), same_tie (field_of Nonce own) (field_of Nonce partner), same_common order own partner)
    (guarded_other (is_wide own || is_wide partner) (has_other_selector own || has_other_selector partner) (is_tie own partner)
    (settled_by (first_of (common_of order own partner)) (role_of own partner))
    (settled_by (first_of (common_of order own partner)) (role_of partner own))
    (λ h. ap (settled_by (first_of (common_of order own partner))) (role_exchanged own partner h) ∙ settled_other (first_of (common_of order own partner)) (role_of own partner)))
