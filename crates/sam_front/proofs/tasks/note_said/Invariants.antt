use Rattle.std.proofs.Common.{◌≡◌, ◌++◌, drop, map, take}
use Rattle.sam_front.specs.Tasks.{said}
use Rattle.sam_front.proofs.tasks.note_said.Given as goal

abbrev pub invariant-loop-place : goal.invariant-loop-place
invariant-loop-place l = l.tasks.items ≡ map (said l.number) (take l.place l.fn.tasks.items) ++ drop l.place l.fn.tasks.items
