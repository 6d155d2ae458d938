use Rattle.std.proofs.Common.{◌≡◌, ◌++◌, take, drop}
use Rattle.sam_pending.specs.Runs.{taken_first}
use Rattle.sam_pending.proofs.due.take_first.Given as goal

abbrev pub invariant-loop-at : goal.invariant-loop-at
invariant-loop-at l =
    (l.runs.items ≡ l.fn.runs.items) × (take l.at l.runs.items ++ taken_first l.up_to (drop l.at l.runs.items) ≡ taken_first l.up_to l.runs.items)
