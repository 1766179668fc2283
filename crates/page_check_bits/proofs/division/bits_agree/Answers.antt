use Rattle.std.proofs.Common.{ℕ, ap, ◌∙◌, nat_eq}
use Rattle.page_check_bits.proofs.Agreement.{agreement}
use Rattle.page_check_bits.proofs.division.bits_agree.Goals as goal

pub returns : goal.returns
returns c = ap (λ (x : ℕ). nat_eq x 0) c.register_after.ensures ∙ agreement _
