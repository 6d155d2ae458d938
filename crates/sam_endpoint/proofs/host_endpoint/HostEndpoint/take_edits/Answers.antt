use Rattle.sam_endpoint.proofs.Common.{arith}
use Rattle.sam_host.proofs.FrameFits.{fit_in_last}
use Rattle.sam_endpoint.proofs.HostEndpointGoing.{took_first}
use Rattle.sam_endpoint.proofs.host_endpoint.HostEndpoint.take_edits.Goals as goal

pub know_frames-requires : goal.know_frames-requires
know_frames-requires c = grind (arith, (fit_in_last c.self.inside.host.version c.handle_edits-count.result.frames.items c.handle_edits-count.ensures.fit))

pub returns-clause-took : goal.returns-clause-took
returns-clause-took c =
    λ some. took_first c.args.self.now _ c.handle_edits-count.result.count c.handle_edits-count.new.self c.handle_edits-count.result.frames.items (grind arith) (grind arith) (grind arith) (grind arith) (grind arith)
    (grind arith)
