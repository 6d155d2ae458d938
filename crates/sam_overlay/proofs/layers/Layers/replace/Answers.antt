use Rattle.std.proofs.Common.{◌≡◌, ◌<◌, arith, length}
use Rattle.sam_runes.specs.Slots.{slot}
use Rattle.sam_overlay.proofs.CallLaws.{replaced_at}
use Rattle.sam_overlay.proofs.SlotSteps.{slot_facts}
use Rattle.sam_overlay.proofs.layers.Layers.replace.Goals as goal

pub returns-then-is_some-clause-ok : goal.returns-then-is_some-clause-ok
returns-then-is_some-clause-ok c =
    let within : c.args.tag < length c.self.inside.slots.items = grind arith in
    let there : slot c.self.inside.slots.items c.args.tag ≡ c.index_mut.result.now = grind (arith, slot_facts) in
    rw (← c.self.view_is)
    (replaced_at c.self.inside.slots.items c.args.tag c.args.len c.args.at c.args.runes.now c.index_mut.result.now c.replace_in.new.layer
    c.replace_in.result within there c.replace_in.ensures.ok)
