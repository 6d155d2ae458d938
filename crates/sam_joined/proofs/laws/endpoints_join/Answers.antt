use Rattle.sam_joined.proofs.Joining.{one_run}
use Rattle.sam_joined.proofs.laws.endpoints_join.Goals as goal

pub returns : goal.returns
returns c = one_run
