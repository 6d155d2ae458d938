use Rattle.std.proofs.Common.{◌≡◌, length}
use Rattle.sam_c.proofs.TypingLaws.{Stands}
use Rattle.sam_c.proofs.term_typing.type_pieces.Given as goal

abbrev pub invariant-loop-rest : goal.invariant-loop-rest
invariant-loop-rest l = record {
  len : l.len ≡ length l.runes;
  stands : Stands l.fn.end l.tag l.runes l.rest l.end;
}

abbrev pub decreases-loop-rest : goal.decreases-loop-rest
decreases-loop-rest l = length l.rest
