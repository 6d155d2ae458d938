use Rattle.sam_link.proofs.Readings.{read_more}
use Rattle.sam_link.proofs.reading.split_packets.Goals as goal

pub packets-preserved : goal.packets-preserved
packets-preserved c =
    let is = rw (c.in-Whole.is, c.split_at.ensures.back) at c.first_packet.ensures in
    read_more c.args.bytes.now c.packets.count c.packets.len c.in-Whole.more c.packets.said c.in-Whole.next c.both-said.result c.packets.invariant is c.both-said.ensures.0 c.both-said.ensures.1
