use Rattle.sam_endpoint.proofs.HostEndpointRuns.{one_outcome}
use Rattle.sam_endpoint.proofs.laws.host_one_outcome.Goals as goal

pub returns : goal.returns
returns c = one_outcome c.one_reading_t.ensures
