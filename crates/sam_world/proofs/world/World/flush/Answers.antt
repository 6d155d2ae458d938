use Rattle.sam_world.proofs.Common.{ap, ◌∙◌, ◌++◌}
use Rattle.sam_world.proofs.Keeping.{kept_flush}
use Rattle.sam_world.proofs.world.World.flush.Goals as goal

pub invariant_of-self-in-Ok : goal.invariant_of-self-in-Ok
invariant_of-self-in-Ok c =
    kept_flush _ c.flush.new.self c.in-Ok.batch c.join.new.self.messages c.self.invariant c.facts.ensures c.in-Ok.ensures.flushed
    (c.join.ensures ∙ ap (λ x. x ++ c.into_vec.result.items) c.reserve.ensures.messages ∙ ap (λ x. c.self.inside.up.messages ++ x) c.into_vec.ensures)
