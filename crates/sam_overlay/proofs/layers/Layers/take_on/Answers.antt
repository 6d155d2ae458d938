use Rattle.std.proofs.Common.{◌≡◌, Some, arith}
use Rattle.sam_runes.specs.Slots.{slot}
use Rattle.sam_overlay.proofs.SlotSteps.{slot_facts}
use Rattle.sam_overlay.proofs.layers.Layers.take_on.Goals as goal

pub take_on-requires : goal.take_on-requires
take_on-requires c l e =
    let there : slot c.args.self.now c.args.tag ≡ Some l = grind (arith, slot_facts) in
    c.requires l there
