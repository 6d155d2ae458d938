use Rattle.sam_runes.proofs.Common.{ℕ, ◌<◌, ◌≤◌, OccursAt}
use Rattle.sam_runes.proofs.places.first_between.Given as goal

abbrev pub invariant-loop-place : goal.invariant-loop-place
invariant-loop-place l = (p : ℕ) → l.from ≤ p → p < l.place → OccursAt l.runes l.lit p → ⊥
