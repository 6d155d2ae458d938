use Rattle.std.proofs.Common.{◌≡◌, ◌≤◌, length, take}
use Rattle.sam_pending.specs.Marks.{spans}
use Rattle.sam_pending.proofs.marks.stretch_of.Given as goal

abbrev pub invariant-loop-mark : goal.invariant-loop-mark
invariant-loop-mark l = (l.number ≡ l.mark-index) × (l.mark-index ≤ length l.marks) × (l.start ≡ spans (take l.mark-index l.marks)) × (l.start ≤ l.index)
