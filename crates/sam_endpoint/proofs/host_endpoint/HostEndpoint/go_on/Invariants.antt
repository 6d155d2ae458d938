use Rattle.std.proofs.Common.{length}
use Rattle.sam_endpoint.proofs.HostEndpointGoing.{HasGone}
use Rattle.sam_endpoint.proofs.host_endpoint.HostEndpoint.go_on.Given as goal

abbrev pub invariant-loop-self : goal.invariant-loop-self
invariant-loop-self l = HasGone l.fn.self l.self

abbrev pub decreases-loop-self : goal.decreases-loop-self
decreases-loop-self l = length l.self.waiting
