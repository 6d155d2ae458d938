use Rattle.sam_endpoint.proofs.HostEndpointRuns.{stops_serve}
use Rattle.sam_endpoint.proofs.laws.host_stops_serve.Goals as goal

pub returns : goal.returns
returns c = stops_serve
