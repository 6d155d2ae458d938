use Rattle.std.proofs.Common.{◌≡◌, ◌≤◌, ◌+◌, ◌++◌, take, drop, length, slice_range}
use Rattle.sam_runes.proofs.edits.move_up.Given as goal

abbrev pub invariant-loop-end : goal.invariant-loop-end
invariant-loop-end l =
    (l.from ≤ l.end) × (l.end ≤ l.to) × (length l.items ≡ length l.initial.items)
    × (take (l.end + l.by) l.items ≡ take (l.end + l.by) l.initial.items)
    × (drop (l.end + l.by) l.items ≡ slice_range l.initial.items l.end l.to ++ drop (l.to + l.by) l.initial.items)

abbrev pub decreases-loop-end : goal.decreases-loop-end
decreases-loop-end l = l.end
