use Rattle.sam_world.proofs.Common.{ap, sym, ◌∙◌, ◌++◌, option_copied}
use Rattle.sam_world.proofs.Keeping.{kept_take}
use Rattle.sam_world.proofs.Stopping.{take_stops}
use Rattle.sam_world.proofs.world.World.term_take.Goals as goal

pub invariant_of-self-in-Ok : goal.invariant_of-self-in-Ok
invariant_of-self-in-Ok c =
    kept_take _ c.receive_lent.new.self c.in-Some.frame.now c.in-Ok.batch c.join.new.self.messages c.drop_first.new.self.messages c.self.invariant c.facts.ensures
    (sym c.first.ensures ∙ ap (λ o. option_copied o) c.in-Some.is) c.in-Ok.ensures.taken
    (c.join.ensures ∙ ap (λ x. x ++ c.into_vec.result.items) c.reserve.ensures.messages ∙ ap (λ x. c.self.inside.up.messages ++ x) c.into_vec.ensures) c.drop_first.ensures.messages

pub fault_of_term-requires : goal.fault_of_term-requires
fault_of_term-requires c =
    take_stops _ c.in-Some.frame.now c.in-Err.fault c.self.invariant.reached
    (sym c.first.ensures ∙ ap (λ o. option_copied o) c.in-Some.is) c.in-Err.ensures.refused
