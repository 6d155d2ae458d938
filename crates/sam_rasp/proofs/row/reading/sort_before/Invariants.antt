use Rattle.sam_rasp.proofs.Common.{◌≡◌, ◌≤◌, ◌+◌, length}
use Rattle.sam_rasp.specs.Rasp.{sort_before}
use Rattle.sam_rasp.specs.Rows.{members_of}
use Rattle.sam_rasp.proofs.row.reading.sort_before.Given as goal

abbrev pub invariant-loop-last : goal.invariant-loop-last
invariant-loop-last g l =
    let whole = members_of g.P.Part.members l.parts in
    let left = members_of g.P.Part.members l.rest in
    (l.start ≡ length left) × (l.at ≤ l.start) × (l.found + l.at ≤ l.p)
    × (sort_before l.loaded whole l.p ≡ l.found + sort_before l.loaded left l.at)

abbrev pub decreases-loop-last : goal.decreases-loop-last
decreases-loop-last g l = length l.rest
