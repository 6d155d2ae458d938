use Rattle.std.proofs.Common.{◌-◌, length}
use Rattle.sam_link.proofs.Taking.{Placed}
use Rattle.sam_link.proofs.inbox.Marks.take_places.Given as goal

abbrev pub invariant-packets : goal.invariant-packets
invariant-packets l = Placed l.bytes l.fn.self l.self l.fn.places l.places l.count

abbrev pub decreases-packets : goal.decreases-packets
decreases-packets l = length l.places - l.count
