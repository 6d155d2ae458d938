use Rattle.std.proofs.Common.{◌≡◌, drop}
use Rattle.std.specs.Prelude.{max}
use Rattle.sam_overlay.specs.Outcomes.{newest_over}
use Rattle.sam_overlay.proofs.layers.newest_over.Given as goal

abbrev pub invariant-loop-layer : goal.invariant-loop-layer
invariant-loop-layer l = max l.newest (newest_over (drop l.layer-index l.slots)) ≡ newest_over l.slots
