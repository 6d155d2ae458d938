use Rattle.std.proofs.Common.{subst, sym}
use Rattle.sam_front.specs.Tasks.{AreTasks}
use Rattle.sam_front.proofs.TaskLaws.{written_tasks}
use Rattle.sam_front.proofs.tasks.Tasks.share.Goals as goal

pub invariant_of-self : goal.invariant_of-self
invariant_of-self c =
    subst (AreTasks c.self.inside.begun) (sym c.make_write.ensures.after)
    (written_tasks c.args.request c.args.tag c.self.inside.begun c.self.inside.waiting.items c.self.invariant)
