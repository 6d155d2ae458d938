use Rattle.sam_host.proofs.Common.{◌≡◌, ℕ, ◌<◌, ◌≤◌, ◌+◌, ◌++◌, take, get_or, length, flat_map, reverse, stamped, told_edit, Edit}
use Rattle.sam_host.proofs.host.Host.tell_edits.Given as goal

abbrev pub invariant-loop-left : goal.invariant-loop-left
invariant-loop-left l =
    (l.frames.items ++ stamped (l.self.taken + 1) (flat_map (told_edit l.self.files l.tag) (reverse (take l.left l.fn.edits)))
    ≡ l.initial.frames.items ++ stamped (l.self.taken + 1) (flat_map (told_edit l.self.files l.tag) (reverse l.fn.edits)))
    × ((k : ℕ) (d : Edit) → k < l.left → get_or l.edits k d ≡ get_or l.fn.edits k d)
    × (l.left ≤ length l.fn.edits)

abbrev pub decreases-loop-left : goal.decreases-loop-left
decreases-loop-left l = l.left
