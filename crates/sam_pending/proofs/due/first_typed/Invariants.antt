use Rattle.std.proofs.Common.{◌≡◌, ◌+◌, drop}
use Rattle.sam_pending.specs.Runs.{above, first_typed}
use Rattle.sam_pending.proofs.due.first_typed.Given as goal

abbrev pub invariant-loop-run : goal.invariant-loop-run
invariant-loop-run l =
    (first_typed l.up_to l.at (drop l.run-index l.runs) ≡ first_typed l.up_to l.start l.runs)
    × (l.at + above (drop l.run-index l.runs) ≡ l.start + above l.runs)
