use Rattle.sam_world.proofs.Common.{ap, ◌∙◌, ◌++◌, Ok, composed_by}
use Rattle.sam_world.proofs.Keeping.{kept_done, kept_silent}
use Rattle.sam_term.proofs.ActLaws.{idle_still, locked_still}
use Rattle.sam_world.proofs.world.World.try_act.Goals as goal

pub returns-in-Ok-Idle-clause-still : goal.returns-in-Ok-Idle-clause-still
returns-in-Ok-Idle-clause-still c =
    rw (idle_still c.self.inside.term c.act.new.self (c.in-Ok-Idle.ensures.acted ∙ ap (λ a. Ok (c.act.new.self, a)) c.in-Ok-Idle.field-0-is), c.reserve.ensures.messages) c.self.view_is

pub returns-in-Ok-Locked-clause-still : goal.returns-in-Ok-Locked-clause-still
returns-in-Ok-Locked-clause-still c =
    rw (locked_still c.self.inside.term c.act.new.self (c.in-Ok-Locked.ensures.acted ∙ ap (λ a. Ok (c.act.new.self, a)) c.in-Ok-Locked.field-0-is), c.reserve.ensures.messages) c.self.view_is

pub invariant_of-self-in-Ok-Done : goal.invariant_of-self-in-Ok-Done
invariant_of-self-in-Ok-Done c =
    kept_done _ c.act.new.self c.in-Ok-Done.batch c.join.new.self.messages c.self.invariant c.facts.ensures
    (c.in-Ok-Done.ensures.acted ∙ ap (λ a. Ok (c.act.new.self, a)) c.in-Ok-Done.field-0-is)
    (c.join.ensures ∙ ap (λ x. x ++ c.into_vec.result.items) c.reserve.ensures.messages ∙ ap (λ x. c.self.inside.up.messages ++ x) c.into_vec.ensures)

pub invariant_of-self-in-Ok-Refused : goal.invariant_of-self-in-Ok-Refused
invariant_of-self-in-Ok-Refused c =
    kept_silent _ c.act.new.self c.in-Ok-Refused.field-0 c.reserve.new.self.messages
    c.self.invariant c.in-Ok-Refused.ensures.acted (ap (λ a. composed_by a) c.in-Ok-Refused.field-0-is) c.reserve.ensures.messages

pub invariant_of-self-in-Ok-Idle : goal.invariant_of-self-in-Ok-Idle
invariant_of-self-in-Ok-Idle c =
    kept_silent _ c.act.new.self c.in-Ok-Idle.field-0 c.reserve.new.self.messages
    c.self.invariant c.in-Ok-Idle.ensures.acted (ap (λ a. composed_by a) c.in-Ok-Idle.field-0-is) c.reserve.ensures.messages

pub invariant_of-self-in-Ok-Locked : goal.invariant_of-self-in-Ok-Locked
invariant_of-self-in-Ok-Locked c =
    kept_silent _ c.act.new.self c.in-Ok-Locked.field-0 c.reserve.new.self.messages
    c.self.invariant c.in-Ok-Locked.ensures.acted (ap (λ a. composed_by a) c.in-Ok-Locked.field-0-is) c.reserve.ensures.messages
