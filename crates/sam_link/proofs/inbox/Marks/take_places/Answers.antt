use Rattle.std.proofs.Common.{arith, refl}
use Rattle.sam_link.proofs.Taking.{more_placed}
use Rattle.sam_link.proofs.inbox.Marks.take_places.Goals as goal

pub packets-preserved : goal.packets-preserved
packets-preserved c =
    more_placed c.args.bytes.now c.args.self.now c.packets.self c.take_whole-place.new.self c.args.places.now c.packets.places _ c.packets.count
    c.take_whole-place.result c.packets.invariant (omega (arith, (c.packets.invariant.inside), (c.packets.invariant.long), c.if-count-places.false)) refl
    c.take_whole-place.ensures.lies c.take_whole-place.ensures.inside c.take_whole-place.ensures.body c.take_whole-place.ensures.rest
    (omega (arith, c.if-place-eq0.false))
