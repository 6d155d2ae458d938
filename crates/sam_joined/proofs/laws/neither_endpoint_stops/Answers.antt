use Rattle.sam_joined.proofs.Joining.{go_on}
use Rattle.sam_joined.proofs.laws.neither_endpoint_stops.Goals as goal

pub returns : goal.returns
returns c = go_on
