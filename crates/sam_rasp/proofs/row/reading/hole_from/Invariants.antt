use Rattle.sam_rasp.proofs.Common.{◌≡◌, ◌≤◌, ◌+◌, length, true, false}
use Rattle.sam_rasp.specs.Rasp.{sort_from}
use Rattle.sam_rasp.specs.Rows.{members_of}
use Rattle.sam_rasp.proofs.row.reading.hole_from.Given as goal

abbrev pub invariant-loop-first : goal.invariant-loop-first
invariant-loop-first g l =
    let whole = members_of g.P.Part.members l.parts in
    let left = members_of g.P.Part.members l.rest in
    let runes = sort_from true left l.at in
    (sort_from true whole l.p ≡ l.runes + runes) × (sort_from false whole (l.p + (l.runes + runes)) ≡ sort_from false left (l.at + runes))
    × (l.runes + length left ≤ length whole)

abbrev pub decreases-loop-first : goal.decreases-loop-first
decreases-loop-first g l = length l.rest
