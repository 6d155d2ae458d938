use Rattle.std.proofs.Common.{◌≡◌, ◌++◌, take, drop}
use Rattle.sam_pending.specs.Runs.{made_first}
use Rattle.sam_pending.proofs.due.make_first.Given as goal

abbrev pub invariant-loop-at : goal.invariant-loop-at
invariant-loop-at l =
    (l.runs.items ≡ l.fn.runs.items) × (take l.at l.runs.items ++ made_first l.deed (drop l.at l.runs.items) ≡ made_first l.deed l.runs.items)
