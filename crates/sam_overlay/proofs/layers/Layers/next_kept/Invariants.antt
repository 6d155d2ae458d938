use Rattle.sam_overlay.specs.Outcomes.{NoneKept}
use Rattle.sam_overlay.proofs.layers.Layers.next_kept.Given as goal

abbrev pub invariant-loop-index : goal.invariant-loop-index
invariant-loop-index l = NoneKept l.self l.from l.index
