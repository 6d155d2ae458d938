use Rattle.sam_endpoint.proofs.HostEndpointFits.{brought_sound}
use Rattle.sam_endpoint.proofs.host_endpoint.HostEndpoint.take_in.Goals as goal

pub invariant_of-self : goal.invariant_of-self
invariant_of-self c =
    brought_sound c.self.inside.host c.self.inside.writes.items c.self.inside.duplex c.take_in.new.self c.args.piece.now c.take_in.result c.self.invariant c.take_in.ensures
