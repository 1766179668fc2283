-- What is left to find is the same after each ability that is not common.
use Rattle.std.proofs.Common.{◌≡◌, drop}
use Rattle.page_resolve.specs.Rates.{common_of, first_of}
use Rattle.page_resolve.proofs.rates.first_common.Given as goal

abbrev pub invariant-loop-ability : goal.invariant-loop-ability
invariant-loop-ability l = first_of (common_of (drop l.ability-index l.order) l.own l.partner) ≡ first_of (common_of l.order l.own l.partner)
