use Rattle.page_check_bits.proofs.Register.{start, turn_low, turn_high}
use Rattle.page_check_bits.proofs.division.register_after.Goals as goal
use Rattle.page_check_bits.proofs.division.register_after.Goals.{then-shifted-lt65536, else-shifted-lt65536}

pub loop-init : goal.loop-init
loop-init c = start _

pub loop-preserved : goal.loop-preserved
loop-preserved c =
    elim c.if-shifted-lt65536.branch [
      | then-shifted-lt65536 w ↦ rw w.register-is (turn_low _ _ _ _ c.loop.invariant w.if-shifted-lt65536.true)
      | else-shifted-lt65536 w ↦ rw w.register-is (turn_high _ _ _ _ c.loop.invariant w.if-shifted-lt65536.false)
    ]
