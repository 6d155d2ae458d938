use Rattle.std.proofs.Common.{ℕ, ◌<◌, ◌≤◌}
use Rattle.sam_journal.specs.Files.{NamesMoreAt}
use Rattle.sam_journal.proofs.reading.names_more.Given as goal

abbrev pub invariant-loop-place : goal.invariant-loop-place
invariant-loop-place l = (p : ℕ) → l.end ≤ p → p < l.place → NamesMoreAt l.random l.bytes p l.end → ⊥
