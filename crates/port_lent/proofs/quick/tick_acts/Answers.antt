-- Where pages are traded, a tick that does not act does nothing.
use Rattle.std.proofs.Common.{◌≡◌, ◌⊎◌, true, inl, inr, sym, ap, ◌∙◌}
use Rattle.port_state.specs.declared.State.{State}
use Rattle.port_state.specs.declared.State.TheVariants.{Ability, Ack, Complete}
use Rattle.port_state.specs.Memory.{is_talking}
use Rattle.port_lent.proofs.QuickLaws.{talking}
use Rattle.port_lent.proofs.quick.tick_acts.Goals as goal

trading : (state : State) → (state ≡ Ability) ⊎ ((state ≡ Ack) ⊎ (state ≡ Complete)) → is_talking state ≡ true
trading state (inl e) = rw e
trading state (inr (inl e)) = rw e
trading state (inr (inr e)) = rw e

pub returns-in-Ability : goal.returns-in-Ability
returns-in-Ability c idle draw =
    talking _ _ draw (ap is_talking (sym c.from.ensures) ∙ trading _ c.in-Ability.is) (sym c.talk_acts.ensures ∙ idle)
