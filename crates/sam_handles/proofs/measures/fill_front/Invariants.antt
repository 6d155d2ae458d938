use Rattle.std.proofs.Common.{◌≡◌, ◌+◌, ◌≤◌, drop, length}
use Rattle.sam_handles.specs.Measures.{front_runes}
use Rattle.sam_handles.proofs.Filling.{Stands}
use Rattle.sam_handles.proofs.measures.fill_front.Given as goal

-- the runes from the place on stand in the buffer, as far as the loop has come
abbrev pub invariant-loop-at : goal.invariant-loop-at
invariant-loop-at l = record {
  same : l.members ≡ l.fn.members;
  at : l.at ≡ l.place + l.filled.runes;
  count : l.filled.runes ≤ length (front_runes (drop l.place l.fn.members));
  stands : Stands (front_runes (drop l.place l.fn.members)) l.fn.into l.into l.filled.runes l.filled.bytes;
}
