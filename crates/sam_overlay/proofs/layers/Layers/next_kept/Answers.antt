use Rattle.std.proofs.Common.{arith}
use Rattle.sam_overlay.proofs.SlotSteps.{kept_past}
use Rattle.sam_overlay.proofs.layers.Layers.next_kept.Goals as goal

pub returns : goal.returns
returns c =
    kept_past c.args.self.now c.args.from c.loop-index.index 65536 c.loop-index.invariant
    (grind (arith, c.min-end.ensures, c.len.ensures, c.loop-index-test.false, c.self.view_is))
