use Rattle.sam_runes.proofs.Common.{ℕ, ◌-◌, ◌<◌, ◌≤◌, OccursAt}
use Rattle.sam_runes.proofs.places.first_in_blocks.Given as goal

abbrev pub invariant-loop-at : goal.invariant-loop-at
invariant-loop-at l =
    (l.from ≤ l.at)
    × (l.at ≤ l.to)
    × ((p : ℕ) → l.from ≤ p → p < l.at → OccursAt l.runes l.lit p → ⊥)

abbrev pub decreases-loop-at : goal.decreases-loop-at
decreases-loop-at l = l.to - l.at
