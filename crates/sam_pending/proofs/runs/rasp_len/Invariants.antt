use Rattle.std.proofs.Common.{◌≡◌, ◌+◌, drop}
use Rattle.sam_pending.specs.Runs.{rooms}
use Rattle.sam_pending.proofs.runs.rasp_len.Given as goal

abbrev pub invariant-loop-run : goal.invariant-loop-run
invariant-loop-run l = l.count + rooms (drop l.run-index l.runs) ≡ rooms l.runs
