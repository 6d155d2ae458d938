use Rattle.sam_rasp.proofs.Common.{◌≡◌, ◌≤◌, ◌-◌, length, take, map, Some, ins}
use Rattle.sam_rasp.proofs.rasp.put_runes.Given as goal

abbrev pub invariant-loop-at : goal.invariant-loop-at
invariant-loop-at l = (l.sections ≡ ins l.initial.sections l.p (map Some (take l.at l.runes))) × (l.at ≤ length l.runes)

abbrev pub decreases-loop-at : goal.decreases-loop-at
decreases-loop-at l = length l.runes - l.at
