use Rattle.std.proofs.Common.{◌≡◌, drop}
use Rattle.std.specs.List.{position_from}
use Rattle.sam_front.specs.Tasks.{has_number}
use Rattle.sam_front.proofs.tasks.place_of.Given as goal

abbrev pub invariant-loop-place : goal.invariant-loop-place
invariant-loop-place l = position_from (has_number l.number) l.place (drop l.place l.tasks) ≡ position_from (has_number l.number) 0 l.tasks
