use Rattle.std.proofs.Common.{◌≡◌, ◌≤◌, ◌-◌, length}
use Rattle.sam_pending.specs.Marks.{spans, IsMarked}
use Rattle.sam_pending.proofs.marks.mark_from.Given as goal

abbrev pub invariant-loop-at : goal.invariant-loop-at
invariant-loop-at l = IsMarked l.marks.items l.blocks × (l.at ≡ spans l.marks.items) × (l.at ≤ length l.blocks)

abbrev pub decreases-loop-at : goal.decreases-loop-at
decreases-loop-at l = length l.blocks - l.at
