use Rattle.sam_rasp.proofs.Common.{◌≡◌, ◌<◌, ◌≤◌, ◌+◌, ◌-◌, length, take}
use Rattle.sam_rasp.specs.Rows.{members_of}
use Rattle.sam_rasp.proofs.row.list.find.Given as goal

abbrev pub invariant-loop-index : goal.invariant-loop-index
invariant-loop-index g l = (l.index ≤ l.last) × (l.last < length l.parts) × (l.start ≡ length (members_of g.P.Part.members (take l.index l.parts)))
    × (l.end ≡ length (members_of g.P.Part.members (take (l.last + 1) l.parts))) × (l.start ≤ l.q - 1) × (l.q ≤ l.end)

abbrev pub decreases-loop-index : goal.decreases-loop-index
decreases-loop-index g l = length l.parts - l.index
