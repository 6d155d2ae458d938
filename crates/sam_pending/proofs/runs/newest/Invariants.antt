use Rattle.std.proofs.Common.{◌≡◌, max, drop}
use Rattle.sam_pending.specs.Runs.{newest_of}
use Rattle.sam_pending.proofs.runs.newest.Given as goal

abbrev pub invariant-loop-run : goal.invariant-loop-run
invariant-loop-run l = max l.group (newest_of (drop l.run-index l.runs)) ≡ newest_of l.runs
