-- Both clauses are what the law of the step by value tells.
use Rattle.port_lent.proofs.LentLaws.{told_due}
use Rattle.port_lent.proofs.lent.step_slowly.Goals as goal

pub returns-clause-says : goal.returns-clause-says
returns-clause-says c =
    (told_due _ _ _ _ _ _ _ _ _ c.from.ensures c.event_of.ensures c.step-reply.ensures c.packed.ensures c.from-2.ensures).answer

pub returns-clause-means : goal.returns-clause-means
returns-clause-means c =
    (told_due _ _ _ _ _ _ _ _ _ c.from.ensures c.event_of.ensures c.step-reply.ensures c.packed.ensures c.from-2.ensures).device
