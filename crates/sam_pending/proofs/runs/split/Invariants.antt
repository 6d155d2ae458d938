use Rattle.std.proofs.Common.{◌≡◌, ◌++◌, drop}
use Rattle.sam_pending.specs.Runs.{front, back, Within}
use Rattle.sam_pending.specs.Layers.{most_kept}
use Rattle.sam_pending.proofs.runs.split.Given as goal

abbrev pub invariant-loop-run : goal.invariant-loop-run
invariant-loop-run l =
    (l.before.items ++ front l.side l.left (drop l.run-index l.runs) ≡ front l.side l.place l.runs)
    × (l.behind.items ++ back l.side l.left (drop l.run-index l.runs) ≡ back l.side l.place l.runs)
    × Within most_kept (drop l.run-index l.runs)
