use Rattle.std.proofs.Common.{◌≡◌, ◌≤◌, ◌-◌, length, take}
use Rattle.sam_pending.specs.Blocks.{flat, measure}
use Rattle.sam_pending.proofs.part.needed.Given as goal

abbrev pub invariant-loop-count : goal.invariant-loop-count
invariant-loop-count l = (l.count ≤ length l.blocks) × (l.reach ≡ measure l.side (flat (take l.count l.blocks)))

abbrev pub decreases-loop-count : goal.decreases-loop-count
decreases-loop-count l = length l.blocks - l.count
