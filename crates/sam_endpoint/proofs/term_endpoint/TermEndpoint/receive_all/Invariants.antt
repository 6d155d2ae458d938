use Rattle.std.proofs.Common.{◌≡◌, [], length}
use Rattle.sam_endpoint.proofs.TermEndpointCalls.{Receiving}
use Rattle.sam_endpoint.proofs.term_endpoint.TermEndpoint.receive_all.Given as goal

-- what came before is received and written
abbrev pub invariant-loop-self : goal.invariant-loop-self
invariant-loop-self l = record { so_far : Receiving l.fn.self l.self; idle : l.self.unwritten ≡ [] }

abbrev pub decreases-loop-self : goal.decreases-loop-self
decreases-loop-self l = length l.self.waiting
