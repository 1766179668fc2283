-- 01, "Rate and role", for the two ends of a link, each of which resolves its own word and the other's.
use Rattle.std.specs.Prelude.{ℕ, ◌<◌, ◌≡◌, Bool, true, false, not, length, get_or, Err}
use Rattle.answers.specs.declared.Refusal.{Refusal}
use Rattle.answers.specs.declared.Refusal.TheVariants.{None}
use Rattle.page_resolve.specs.Rates.{rate_order, is_common}
use Rattle.page_resolve.specs.Resolving.{resolution_of, rate_and_role}

-- "Common bits, first in this order": the ability stands at a place of 01's order, and is common, and none before it is.
pub record FirstCommon (own partner ability : ℕ) : Type 0 where
  pub place : ℕ
  pub listed : place < length rate_order
  pub stands : get_or rate_order place 0 ≡ ability
  pub common : is_common own partner ability ≡ true
  pub none_before : (k : ℕ) → k < place → is_common own partner (get_or rate_order k 0) ≡ false

pub record BothEnds : Type 0 where
  -- Both settle on the same ability, one as master and the other as slave.
  pub settled : (own partner ability : ℕ) (master : Bool) → resolution_of rate_order own partner ≡ rate_and_role ability master
      → resolution_of rate_order partner own ≡ rate_and_role ability (not master)
  -- What one end refuses the other refuses too, with the same number.
  pub refused : (own partner : ℕ) (refusal : Refusal) → resolution_of rate_order own partner ≡ Err refusal
      → resolution_of rate_order partner own ≡ Err refusal
  -- They settle on the first common ability,
  pub first : (own partner ability : ℕ) (master : Bool) → resolution_of rate_order own partner ≡ rate_and_role ability master → FirstCommon own partner ability
  -- and answer None only where there is none.
  pub none : (own partner : ℕ) → resolution_of rate_order own partner ≡ Err None
      → (k : ℕ) → k < length rate_order → is_common own partner (get_or rate_order k 0) ≡ false
