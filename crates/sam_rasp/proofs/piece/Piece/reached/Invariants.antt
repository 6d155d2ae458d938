use Rattle.sam_rasp.proofs.Common.{◌≡◌, ◌≤◌, ◌+◌, ◌-◌, Some, drop, length, map}
use Rattle.sam_rasp.specs.Counting.{reached}
use Rattle.sam_rasp.proofs.piece.Piece.reached.Given as goal

abbrev pub invariant-loop-place : goal.invariant-loop-place
invariant-loop-place l = (l.place ≤ length l.runes) × (reached l.measure (map Some l.runes) l.count ≡ l.place + reached l.measure (map Some (drop l.place l.runes)) l.left)

abbrev pub decreases-loop-place : goal.decreases-loop-place
decreases-loop-place l = length l.runes - l.place
