use Rattle.sam_overlay.specs.Outcomes.{NoneWaits}
use Rattle.sam_overlay.proofs.layers.Layers.next_waiting.Given as goal

abbrev pub invariant-loop-index : goal.invariant-loop-index
invariant-loop-index l = NoneWaits l.self l.from l.index
