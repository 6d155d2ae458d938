use Rattle.std.proofs.Common.{◌≡◌, drop}
use Rattle.sam_front.specs.Tasks.{write_in}
use Rattle.sam_front.proofs.tasks.number_of_write.Given as goal

abbrev pub invariant-loop-task : goal.invariant-loop-task
invariant-loop-task l = write_in l.request (drop l.task-index l.tasks) ≡ write_in l.request l.tasks
