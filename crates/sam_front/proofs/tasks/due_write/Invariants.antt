use Rattle.std.proofs.Common.{◌≡◌, drop}
use Rattle.std.specs.List.{find}
use Rattle.sam_front.specs.Tasks.{is_due}
use Rattle.sam_front.proofs.tasks.due_write.Given as goal

abbrev pub invariant-loop-task : goal.invariant-loop-task
invariant-loop-task l = find (is_due l.told) (drop l.task-index l.tasks) ≡ find (is_due l.told) l.tasks
