use Rattle.sam_endpoint.proofs.Common.{shown}
use Rattle.sam_endpoint.proofs.TermEndpointSteps.{brought_sound}
use Rattle.sam_endpoint.proofs.term_endpoint.TermEndpoint.take_in.Goals as goal

pub invariant_of-self : goal.invariant_of-self
invariant_of-self c = brought_sound (shown c.self.inside) c.self.inside.duplex c.take_in.new.self c.args.piece.now c.take_in.result c.self.invariant c.take_in.ensures
