use Rattle.sam_endpoint.proofs.HostEndpointStepping.{steps_feed}
use Rattle.sam_endpoint.proofs.laws.host_steps_feed.Goals as goal

pub returns : goal.returns
returns c = steps_feed
