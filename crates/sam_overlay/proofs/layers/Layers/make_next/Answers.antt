use Rattle.std.proofs.Common.{◌≡◌, Some, arith}
use Rattle.sam_overlay.proofs.SlotSteps.{slot_facts}
use Rattle.sam_overlay.proofs.layers.Layers.make_next.Goals as goal

pub returns-then-index-len-clause-made : goal.returns-then-index-len-clause-made
returns-then-index-len-clause-made c l e =
    let there : c.index_mut.result.now ≡ Some l = grind (arith, slot_facts) in
    c.make_next.ensures.made l there
