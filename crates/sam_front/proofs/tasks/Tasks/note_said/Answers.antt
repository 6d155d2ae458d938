use Rattle.std.proofs.Common.{subst, sym}
use Rattle.sam_front.specs.Tasks.{AreTasks}
use Rattle.sam_front.proofs.TaskLaws.{said_tasks}
use Rattle.sam_front.proofs.tasks.Tasks.note_said.Goals as goal

pub invariant_of-self : goal.invariant_of-self
invariant_of-self c =
    subst (AreTasks c.self.inside.begun) (sym c.note_said.ensures)
    (said_tasks c.args.number c.self.inside.begun c.self.inside.waiting.items c.self.invariant)
