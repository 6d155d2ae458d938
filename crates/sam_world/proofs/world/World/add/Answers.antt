use Rattle.sam_world.proofs.Common.{arith}
use Rattle.sam_world.proofs.Keeping.{kept_tried}
use Rattle.sam_world.proofs.world.World.add.Goals as goal

pub invariant_of-self : goal.invariant_of-self
invariant_of-self c =
    kept_tried _ c.args.name.now c.args.text.now c.in_ok-name.name c.in-Ok.text.runes c.add_file.new.self c.add_file.result c.self.invariant
    (grind (arith, c.may_add.ensures, c.if-not-may_add.false)) (grind (arith, c.in_ok-name.ensures)) (grind (arith, c.in-Ok.ensures.ok, c.as_slice.ensures))
    c.add_file.ensures.added c.add_file.ensures.unchanged
