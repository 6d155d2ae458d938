use Rattle.std.proofs.Common.{◌≡◌}
use Rattle.sam_handles.proofs.Filling.{Stands}
use Rattle.sam_handles.proofs.utf8.fill_utf8.Given as goal

abbrev pub invariant-loop-rune : goal.invariant-loop-rune
invariant-loop-rune l = record {
  count : l.filled.runes ≡ l.rune-index;
  stands : Stands l.runes l.fn.into l.into l.filled.runes l.filled.bytes;
}
