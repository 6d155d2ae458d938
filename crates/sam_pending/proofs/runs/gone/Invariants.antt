use Rattle.std.proofs.Common.{◌≡◌, ◌++◌, ◌+◌, drop}
use Rattle.sam_pending.specs.Runs.{above, gone_runs}
use Rattle.sam_pending.proofs.runs.gone.Given as goal

abbrev pub invariant-loop-run : goal.invariant-loop-run
invariant-loop-run l =
    (l.told.items ++ gone_runs l.at (drop l.run-index l.runs) ≡ gone_runs l.start l.runs)
    × (l.at + above (drop l.run-index l.runs) ≡ l.start + above l.runs)
