use Rattle.std.proofs.Common.{◌∙◌, ap}
use Rattle.sam_front.specs.Tasks.{taken_back}
use Rattle.sam_front.proofs.TaskLaws.{back_is, back_positive, back_tasks}
use Rattle.sam_front.proofs.tasks.Tasks.take_back.Goals as goal

pub overflow_sub-self : goal.overflow_sub-self
overflow_sub-self c =
    back_positive c.self.inside.begun c.self.inside.waiting.items c.pop.new.self.items c.in-Some.task c.in-Some.ensures.items c.self.invariant

pub invariant_of-self : goal.invariant_of-self
invariant_of-self c =
    back_tasks c.self.inside.begun c.self.inside.waiting.items c.pop.new.self.items c.in-Some.task c.in-Some.ensures.items c.self.invariant

pub returns-in-Some : goal.returns-in-Some
returns-in-Some c =
    back_is c.self.inside.begun c.self.inside.waiting.items c.pop.new.self.items c.in-Some.task c.in-Some.ensures.items
    ∙ ap taken_back c.self.view_is
