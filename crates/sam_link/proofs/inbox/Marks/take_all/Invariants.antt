use Rattle.std.proofs.Common.{◌-◌, length}
use Rattle.sam_link.proofs.Taking.{Taken}
use Rattle.sam_link.proofs.inbox.Marks.take_all.Given as goal

abbrev pub invariant-packets : goal.invariant-packets
invariant-packets l = Taken l.bytes l.fn.self l.self l.fn.into l.into l.count

abbrev pub decreases-packets : goal.decreases-packets
decreases-packets l = length l.into - l.count
