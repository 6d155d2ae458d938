use Rattle.std.proofs.Common.{◌≡◌, ◌≤◌, ◌-◌, ◌++◌, take, drop, length, slice_range}
use Rattle.sam_runes.proofs.edits.move_down.Given as goal

abbrev pub invariant-loop-at : goal.invariant-loop-at
invariant-loop-at l =
    (l.from ≤ l.at) × (l.at ≤ length l.initial.items) × (length l.items ≡ length l.initial.items)
    × (take (l.at - l.by) l.items ≡ take l.dest l.initial.items ++ slice_range l.initial.items l.from l.at)
    × (drop l.at l.items ≡ drop l.at l.initial.items)

abbrev pub decreases-loop-at : goal.decreases-loop-at
decreases-loop-at l = length l.initial.items - l.at
