use Rattle.sam_runes.proofs.Common.{◌≡◌, ◌≤◌, length, lines_before}
use Rattle.sam_runes.proofs.places.lines_before.Given as goal

abbrev pub invariant-loop-at : goal.invariant-loop-at
invariant-loop-at l = (l.at ≤ length l.runes) × (lines_before l.runes l.at l.left ≡ lines_before l.runes l.p l.n)

abbrev pub decreases-loop-at : goal.decreases-loop-at
decreases-loop-at l = l.at
