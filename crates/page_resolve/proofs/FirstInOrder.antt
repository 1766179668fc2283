-- What the ordered list decides, whatever list it is: the settled ability stands in it, both words have it, and no ability that
-- stands before it is common; and None says that no ability of the list is.
use mathlib.Core.Path.{◌≡◌, refl, sym, ap, ◌∙◌}
use mathlib.Core.Bool.{Bool, true, false, cond, ◌||◌}
use mathlib.Core.List.{List, [], ◌∷◌}
use Prim.Native.Nat.{ℕ, zero, suc, ◌<◌}
use native.Mathlib.Nat.{le_of_suc-le-suc, not-suc-le-zero}
use native.Mathlib.Omega.{arith}
use lib.ListN.{length, get_or}
use Rattle.page_word.proofs.ComputedTest.{and_left, and_right}
use Rattle.std.specs.Prelude.{Option, Some, None, Ok, Err}
use Rattle.answers.specs.declared.Refusal.TheVariants as refusal
use Rattle.page_resolve.specs.declared.roles.Role.{Role}
use Rattle.page_resolve.specs.declared.roles.Role.TheVariants.{Master, Slave}
use Rattle.page_resolve.specs.Rates.{has_ability, is_common, common_of, first_of}
use Rattle.page_resolve.specs.Roles.{role_of}
use Rattle.page_word.specs.Word.{is_wide}
use Rattle.page_word.specs.Fields.{has_other_selector, is_tie}
use Rattle.page_resolve.specs.Resolving.{Resolution, rate_and_role, settled_by, resolution_of}
use Rattle.page_resolve.proofs.CommonAbilities.{first_yes, first_no}

-- The ability stands at a place of the list, and is the first there that both words have.
pub record FirstCommon (order : List ℕ) (own partner ability : ℕ) : Type 0 where
  pub place : ℕ
  pub listed : place < length order
  pub stands : get_or order place 0 ≡ ability
  pub own_has : has_ability own ability ≡ true
  pub partner_has : has_ability partner ability ≡ true
  pub none_before : (k : ℕ) → k < place → is_common own partner (get_or order k 0) ≡ false

-- Nothing of the list is common.
abbrev pub NoneCommon : List ℕ → ℕ → ℕ → Type 0
NoneCommon order own partner = (k : ℕ) → k < length order → is_common own partner (get_or order k 0) ≡ false

first_is : (n : ℕ) (rest : List ℕ) (own partner ability : ℕ) → is_common own partner n ≡ true → n ≡ ability → FirstCommon (n ∷ rest) own partner ability
first_is n rest own partner ability common e =
    record {
      place = 0;
      listed = omega arith;
      stands = e;
      own_has = ap (has_ability own) (sym e) ∙ and_left (has_ability own n) (has_ability partner n) common;
      partner_has = ap (has_ability partner) (sym e) ∙ and_right (has_ability own n) (has_ability partner n) common;
      none_before = λ k h. absurd (not-suc-le-zero h);
    }

-- An ability that is not common may stand before.
later : (n : ℕ) (rest : List ℕ) (own partner ability : ℕ) → is_common own partner n ≡ false → FirstCommon rest own partner ability → FirstCommon (n ∷ rest) own partner ability
later n rest own partner ability other f =
    record {
      place = suc f.place;
      listed = let l = f.listed in omega arith;
      stands = f.stands;
      own_has = f.own_has;
      partner_has = f.partner_has;
      none_before = before;
    }
  where
    before : (k : ℕ) → k < suc f.place → is_common own partner (get_or (n ∷ rest) k 0) ≡ false
    before zero h = other
    before (suc k) h = f.none_before k (le_of_suc-le-suc h)

pub first_common : (order : List ℕ) (own partner ability : ℕ) → first_of (common_of order own partner) ≡ Some ability → FirstCommon order own partner ability
first_common [] own partner ability e = cc e
first_common (n ∷ rest) own partner ability e = by (first_common rest own partner ability) (is_common own partner n) refl
  where
    by : (first_of (common_of rest own partner) ≡ Some ability → FirstCommon rest own partner ability) → (t : Bool) → is_common own partner n ≡ t → FirstCommon (n ∷ rest) own partner ability
    by below true common = first_is n rest own partner ability common (cc (e, first_yes n rest own partner common))
    by below false other = later n rest own partner ability other (below (ap first_of (sym (first_no n rest own partner other)) ∙ e))

pub none_common : (order : List ℕ) (own partner : ℕ) → first_of (common_of order own partner) ≡ None → NoneCommon order own partner
none_common [] own partner e = λ k h. absurd (not-suc-le-zero h)
none_common (n ∷ rest) own partner e = by (none_common rest own partner) (is_common own partner n) refl
  where
    each : is_common own partner n ≡ false → NoneCommon rest own partner → NoneCommon (n ∷ rest) own partner
    each other below zero h = other
    each other below (suc k) h = below k (le_of_suc-le-suc h)

    by : (first_of (common_of rest own partner) ≡ None → NoneCommon rest own partner) → (t : Bool) → is_common own partner n ≡ t → NoneCommon (n ∷ rest) own partner
    by below true common = absurd (let z : ◌≡◌ {A = ℕ} 0 1 = cc (e, first_yes n rest own partner common) in omega arith)
    by below false other = each other (below (ap first_of (sym (first_no n rest own partner other)) ∙ e))

-- An answer that is none of the first three refusals comes from the rate and the role.
settles : (wide other tie : Bool) (x : Resolution) (ability : ℕ) (master : Bool)
    → cond wide (Err refusal.Wide) (cond other (Err refusal.Selector) (cond tie (Err refusal.Tie) x)) ≡ rate_and_role ability master → x ≡ rate_and_role ability master
settles true other tie x ability master e = cc e
settles false true tie x ability master e = cc e
settles false false true x ability master e = cc e
settles false false false x ability master e = e

lacks : (wide other tie : Bool) (x : Resolution)
    → cond wide (Err refusal.Wide) (cond other (Err refusal.Selector) (cond tie (Err refusal.Tie) x)) ≡ Err refusal.None → x ≡ Err refusal.None
lacks true other tie x e = cc e
lacks false true tie x e = cc e
lacks false false true x e = cc e
lacks false false false x e = e

abbrev ability_in : Resolution → ℕ
ability_in (Ok here) = here.ability
ability_in (Err refused) = 0

rate_settled : (rate : Option ℕ) (role : Option Role) (ability : ℕ) (master : Bool) → settled_by rate role ≡ rate_and_role ability master → rate ≡ Some ability
rate_settled None role ability master e = cc e
rate_settled (Some n) (Some Master) ability master e = ap (λ (r : Resolution). Some (ability_in r)) e
rate_settled (Some n) (Some Slave) ability master e = ap (λ (r : Resolution). Some (ability_in r)) e
rate_settled (Some n) None ability master e = cc e

rate_missing : (rate : Option ℕ) (role : Option Role) → settled_by rate role ≡ Err refusal.None → rate ≡ None
rate_missing None role e = refl
rate_missing (Some n) (Some Master) e = cc e
rate_missing (Some n) (Some Slave) e = cc e
rate_missing (Some n) None e = cc e

-- Whatever two words settle on is the first of the list that they have in common,
pub settled_first : (order : List ℕ) (own partner ability : ℕ) (master : Bool)
    → resolution_of order own partner ≡ rate_and_role ability master → FirstCommon order own partner ability
unfolding resolution_of
settled_first order own partner ability master e =
    first_common order own partner ability
    (rate_settled (first_of (common_of order own partner)) (role_of own partner) ability master
    (settles (is_wide own || is_wide partner) (has_other_selector own || has_other_selector partner) (is_tie own partner)
    (settled_by (first_of (common_of order own partner)) (role_of own partner)) ability master e))

-- and None is answered only where they have none in common.
pub none_only : (order : List ℕ) (own partner : ℕ) → resolution_of order own partner ≡ Err refusal.None → NoneCommon order own partner
unfolding resolution_of
none_only order own partner e =
    none_common order own partner
    (rate_missing (first_of (common_of order own partner)) (role_of own partner)
    (lacks (is_wide own || is_wide partner) (has_other_selector own || has_other_selector partner) (is_tie own partner)
    (settled_by (first_of (common_of order own partner)) (role_of own partner)) e))
