use Rattle.sam_server.proofs.HostLinks.{fed_well}
use Rattle.sam_server.proofs.host_link.HostLink.feed.Goals as goal

pub invariant_of-self-in-Ok : goal.invariant_of-self-in-Ok
invariant_of-self-in-Ok c =
    fed_well c.self.inside.link c.feed-fed.new.self c.self.inside.hello_left c.args.attempt c.args.piece.now c.self.invariant c.in-Ok.ensures
