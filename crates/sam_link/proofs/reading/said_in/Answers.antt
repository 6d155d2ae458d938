use Rattle.std.proofs.Common.{arith, refl}
use Rattle.sam_link.specs.Packets.Packet.{Data, Note, Acknowledge, Ask}
use Rattle.sam_link.proofs.PacketLaws.{no_bytes}
use Rattle.sam_link.proofs.reading.said_in.Goals as goal

pub returns-in-1 : goal.returns-in-1
returns-in-1 c = (Data c.args.body.now, grind arith, refl, refl)

pub returns-in-2 : goal.returns-in-2
returns-in-2 c = (Note c.args.body.now, grind arith, refl, refl)

pub returns-in-3 : goal.returns-in-3
returns-in-3 c = (Acknowledge c.number_of.result, grind arith, refl, refl)

pub returns-in_default : goal.returns-in_default
returns-in_default c = (Ask, grind (arith, (no_bytes c.args.body.now)), refl, refl)
