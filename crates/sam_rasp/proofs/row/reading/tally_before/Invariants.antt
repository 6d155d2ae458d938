use Rattle.sam_rasp.proofs.Common.{◌≡◌, ◌≤◌, length, take}
use Rattle.sam_rasp.specs.Counting.{plus}
use Rattle.sam_rasp.specs.Rows.{members_of}
use Rattle.sam_rasp.specs.Tallies.{tally_of}
use Rattle.sam_rasp.proofs.row.reading.tally_before.Given as goal

abbrev pub invariant-loop-first : goal.invariant-loop-first
invariant-loop-first g l =
    let whole = members_of g.P.Part.members l.parts in
    let left = members_of g.P.Part.members l.rest in
    (plus l.tally (tally_of (take l.at left)) ≡ tally_of (take l.p whole)) × (plus l.tally (tally_of left) ≡ tally_of whole) × (length left ≤ length whole)

abbrev pub decreases-loop-first : goal.decreases-loop-first
decreases-loop-first g l = length l.rest
