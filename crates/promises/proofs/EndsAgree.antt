-- The two ends of a link, from the laws on resolving, at 01's order of abilities.
use Prim.Native.Nat.{ℕ}
use mathlib.Core.Path.{◌≡◌, ap, ap₂, ◌∙◌}
use mathlib.Core.Bool.{Bool, ◌&&◌}
use Rattle.page_resolve.specs.Rates.{rate_order}
use Rattle.page_resolve.specs.Resolving.{resolution_of, rate_and_role}
use Rattle.page_resolve.proofs.FirstInOrder.{settled_first, none_only}
use Rattle.page_resolve.proofs.Exchange.{opposite, exchanged}
use Rattle.promises.specs.BothEnds.{FirstCommon, BothEnds}

first_common : (own partner ability : ℕ) (master : Bool) → resolution_of rate_order own partner ≡ rate_and_role ability master → FirstCommon own partner ability
first_common own partner ability master e =
    let f = settled_first rate_order own partner ability master e in
    record {
      place = f.place;
      listed = f.listed;
      stands = f.stands;
      common = ap₂ ◌&&◌ f.own_has f.partner_has;
      none_before = f.none_before;
    }

pub both_ends : BothEnds
both_ends =
    record {
      settled = λ own partner ability master e. exchanged rate_order own partner ∙ ap opposite e;
      refused = λ own partner refusal e. exchanged rate_order own partner ∙ ap opposite e;
      first = first_common;
      none = none_only rate_order;
    }
