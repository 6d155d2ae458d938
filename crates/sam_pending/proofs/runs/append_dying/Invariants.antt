use Rattle.std.proofs.Common.{◌≡◌, ◌++◌, drop}
use Rattle.sam_pending.specs.Runs.{dying_runs}
use Rattle.sam_pending.proofs.runs.append_dying.Given as goal

abbrev pub invariant-loop-run : goal.invariant-loop-run
invariant-loop-run l = l.to.items ++ dying_runs l.group (drop l.run-index l.runs) ≡ l.fn.to.items ++ dying_runs l.group l.runs
