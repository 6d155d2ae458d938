use Rattle.sam_runes.proofs.Common.{take, AreRunes}
use Rattle.sam_runes.proofs.runes.slice_facts.Given as goal

abbrev pub invariant-loop-c : goal.invariant-loop-c
invariant-loop-c l = AreRunes (take l.c-index l.runes)
