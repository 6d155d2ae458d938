use Rattle.std.proofs.Common.{length}
use Rattle.sam_endpoint.proofs.TermEndpointCalls.{Acting}
use Rattle.sam_endpoint.proofs.term_endpoint.TermEndpoint.act_all.Given as goal

-- events acted, and what they composed is written
abbrev pub invariant-loop-self : goal.invariant-loop-self
invariant-loop-self l = Acting l.fn.self l.self

abbrev pub decreases-loop-self : goal.decreases-loop-self
decreases-loop-self l = length l.self.term.held
