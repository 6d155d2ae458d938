use Rattle.std.proofs.Common.{◌≡◌, ◌++◌, drop}
use Rattle.sam_pending.specs.Runs.{waiting_runs}
use Rattle.sam_pending.proofs.runs.waiting.Given as goal

abbrev pub invariant-loop-run : goal.invariant-loop-run
invariant-loop-run l = l.kept.items ++ waiting_runs (drop l.run-index l.runs) ≡ waiting_runs l.runs
