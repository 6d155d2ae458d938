use Rattle.std.proofs.Common.{◌≡◌, ◌++◌, ◌+◌, drop}
use Rattle.sam_pending.specs.Runs.{above, rooms, filled_runs}
use Rattle.sam_pending.proofs.runs.filled.Given as goal

abbrev pub invariant-loop-run : goal.invariant-loop-run
invariant-loop-run l =
    (l.told.items ++ filled_runs l.at l.from (drop l.run-index l.runs) ≡ filled_runs l.start 0 l.runs)
    × (l.at + above (drop l.run-index l.runs) ≡ l.start + above l.runs)
    × (l.from + rooms (drop l.run-index l.runs) ≡ rooms l.runs)
