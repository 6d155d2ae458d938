use Rattle.std.proofs.Common.{◌≡◌, ◌+◌, drop}
use Rattle.sam_pending.specs.Runs.{spot, rooms, Within}
use Rattle.sam_pending.specs.Layers.{most_kept}
use Rattle.sam_pending.proofs.runs.shown_run.Given as goal

abbrev pub invariant-loop-run : goal.invariant-loop-run
invariant-loop-run l =
    (spot l.left l.at (drop l.run-index l.runs) ≡ spot l.place l.start l.runs)
    × (l.at + rooms (drop l.run-index l.runs) ≡ l.start + rooms l.runs)
    × Within most_kept (drop l.run-index l.runs)
