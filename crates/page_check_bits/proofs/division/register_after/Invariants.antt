-- The register holds the remainder of the bits that have entered, and the others are left.
use Rattle.page_check_bits.proofs.Register.{Going}
use Rattle.page_check_bits.proofs.division.register_after.Given as goal

abbrev pub invariant-loop : goal.invariant-loop
invariant-loop l = Going l.bits l.register l.rest l.counter
