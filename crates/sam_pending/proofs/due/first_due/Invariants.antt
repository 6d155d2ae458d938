use Rattle.std.proofs.Common.{◌≡◌, ◌+◌, drop}
use Rattle.sam_pending.specs.Runs.{first_due, rooms}
use Rattle.sam_pending.proofs.due.first_due.Given as goal

abbrev pub invariant-loop-run : goal.invariant-loop-run
invariant-loop-run l =
    (first_due l.deed l.at (drop l.run-index l.runs) ≡ first_due l.deed l.start l.runs)
    × (l.at + rooms (drop l.run-index l.runs) ≡ l.start + rooms l.runs)
