use Rattle.sam_runes.proofs.Common.{◌≡◌, ℕ, ◌<◌, false, get_or}
use Rattle.sam_runes.proofs.places.have_both.Given as goal

abbrev pub invariant-loop-k : goal.invariant-loop-k
invariant-loop-k l = l.found ≡ false → (j : ℕ) → j < l.k → get_or l.fronts j 0 ≡ l.first → get_or l.backs j 0 ≡ l.last → ⊥
