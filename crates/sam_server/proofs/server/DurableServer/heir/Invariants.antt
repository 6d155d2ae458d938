use Rattle.std.proofs.Common.{◌-◌, length}
use Rattle.sam_server.specs.Heirs.{host_of}
use Rattle.sam_server.proofs.Heirs.{Keeps}
use Rattle.sam_server.proofs.server.DurableServer.heir.Given as goal

abbrev pub invariant-loop-tag : goal.invariant-loop-tag
invariant-loop-tag l = Keeps l.fn.id l.fn.self l.heir l.tag

abbrev pub decreases-loop-tag : goal.decreases-loop-tag
decreases-loop-tag l = length (host_of l.fn.self).files.slots - l.tag
