use Rattle.sam_world.proofs.Common.{ap, sym, ◌∙◌, ◌++◌, option_copied}
use Rattle.sam_world.proofs.Keeping.{kept_answer}
use Rattle.sam_world.proofs.Stopping.{host_stops}
use Rattle.sam_world.proofs.world.World.host_take.Goals as goal

pub invariant_of-self-in-Ok : goal.invariant_of-self-in-Ok
invariant_of-self-in-Ok c =
    kept_answer _ c.handle_lent.new.self c.in-Some.message.now c.drop_first.new.self.messages c.in-Ok.frames c.join.new.self.messages c.self.invariant
    (sym c.first.ensures ∙ ap (λ o. option_copied o) c.in-Some.is) c.in-Ok.ensures.answered c.drop_first.ensures.messages
    (c.join.ensures ∙ ap (λ x. x ++ c.into_vec.result.items) c.reserve.ensures.messages ∙ ap (λ x. c.self.inside.down.messages ++ x) c.into_vec.ensures)

pub fault_of_host-requires : goal.fault_of_host-requires
fault_of_host-requires c =
    host_stops _ c.in-Some.message.now c.in-Err.fault c.self.invariant.reached
    (sym c.first.ensures ∙ ap (λ o. option_copied o) c.in-Some.is) c.in-Err.ensures.refused
