use Rattle.std.proofs.Common.{◌≡◌, ◌≤◌, ◌-◌, length, take}
use Rattle.sam_pending.specs.Blocks.{flat}
use Rattle.sam_pending.proofs.blocks.cut.Given as goal

abbrev pub invariant-loop-done : goal.invariant-loop-done
invariant-loop-done l = (l.done ≤ length l.runs) × (flat l.blocks.items ≡ take l.done l.runs)

abbrev pub decreases-loop-done : goal.decreases-loop-done
decreases-loop-done l = length l.runs - l.done
