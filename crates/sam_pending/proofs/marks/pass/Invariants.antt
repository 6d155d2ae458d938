use Rattle.std.proofs.Common.{◌≤◌, drop}
use Rattle.sam_pending.specs.Marks.{IsMarked, Passes}
use Rattle.sam_pending.proofs.marks.pass.Given as goal

abbrev pub invariant-loop-mark : goal.invariant-loop-mark
invariant-loop-mark l = (l.index ≤ l.limit) × Passes l.stop l.blocks l.index l.sums × IsMarked (drop l.mark-index l.marks) (drop l.index l.blocks)
