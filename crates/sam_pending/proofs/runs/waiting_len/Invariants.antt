use Rattle.std.proofs.Common.{◌≡◌, ◌+◌, drop}
use Rattle.sam_pending.specs.Runs.{waits}
use Rattle.sam_pending.proofs.runs.waiting_len.Given as goal

abbrev pub invariant-loop-run : goal.invariant-loop-run
invariant-loop-run l = l.count + waits (drop l.run-index l.runs) ≡ waits l.runs
