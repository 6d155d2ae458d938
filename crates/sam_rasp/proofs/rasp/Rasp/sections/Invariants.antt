use Rattle.sam_rasp.proofs.Common.{◌≡◌, ◌≤◌, ◌+◌, ◌-◌, drop, length}
use Rattle.sam_rasp.proofs.Fewest.{packed}
use Rattle.sam_rasp.proofs.rasp.Rasp.sections.Given as goal

abbrev pub invariant-loop-at : goal.invariant-loop-at
invariant-loop-at l = (l.count + length (packed (drop l.at l.self)) ≡ length (packed l.self)) × (l.at ≤ length l.self)

abbrev pub decreases-loop-at : goal.decreases-loop-at
decreases-loop-at l = length l.self - l.at
