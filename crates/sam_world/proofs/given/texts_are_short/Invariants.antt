use Rattle.sam_world.proofs.Common.{drop, AreShort}
use Rattle.sam_world.proofs.given.texts_are_short.Given as goal

abbrev pub invariant-loop-file : goal.invariant-loop-file
invariant-loop-file l = AreShort (drop l.file-index l.files) → AreShort l.files
