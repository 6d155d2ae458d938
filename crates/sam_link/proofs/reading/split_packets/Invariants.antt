use Rattle.std.proofs.Common.{◌-◌, length}
use Rattle.sam_link.specs.Packets.{IsRead}
use Rattle.sam_link.proofs.reading.split_packets.Given as goal

abbrev pub invariant-packets : goal.invariant-packets
invariant-packets l = IsRead l.bytes l.count l.len l.said

abbrev pub decreases-packets : goal.decreases-packets
decreases-packets l = length l.bytes - l.len
