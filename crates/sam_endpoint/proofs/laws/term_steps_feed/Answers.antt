use Rattle.sam_endpoint.proofs.TermEndpointStepping.{steps_feed}
use Rattle.sam_endpoint.proofs.laws.term_steps_feed.Goals as goal

pub returns : goal.returns
returns c = steps_feed
