use Rattle.sam_runes.proofs.Common.{◌≡◌, ◌+◌, drop, length, prefix_in_bytes}
use Rattle.sam_runes.proofs.places.prefix_in_bytes.Given as goal

abbrev pub invariant-loop-at : goal.invariant-loop-at
invariant-loop-at l = l.at + length (prefix_in_bytes (drop l.at l.runes) l.left) ≡ length (prefix_in_bytes l.runes l.most)
