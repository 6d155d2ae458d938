use Rattle.sam_rasp.proofs.Common.{◌≡◌, ◌≤◌, ◌+◌, length}
use Rattle.sam_rasp.specs.Counting.{reached}
use Rattle.sam_rasp.specs.Rows.{members_of}
use Rattle.sam_rasp.proofs.row.reading.reached.Given as goal

abbrev pub invariant-loop-first : goal.invariant-loop-first
invariant-loop-first g l =
    let whole = members_of g.P.Part.members l.parts in
    let left = members_of g.P.Part.members l.rest in
    (reached l.measure whole l.count ≡ l.found + reached l.measure left l.left) × (l.found + length left ≤ length whole)

abbrev pub decreases-loop-first : goal.decreases-loop-first
decreases-loop-first g l = length l.rest
