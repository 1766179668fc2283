-- A reply that is what is due, where the same can be said in another way.
use mathlib.Core.Path.{◌≡◌, subst}
use Rattle.port_state.specs.Memory.{Due, Meets}
use Rattle.port_state.specs.declared.Reply.{Reply}

pub as_due : {r : Reply} {d e : Due} → Meets r d → d ≡ e → Meets r e
as_due {r} m same = subst (λ (x : Due). Meets r x) same m
