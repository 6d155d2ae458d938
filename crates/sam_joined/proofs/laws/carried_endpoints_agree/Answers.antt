use Rattle.sam_joined.proofs.Carrying.{agrees}
use Rattle.sam_joined.proofs.laws.carried_endpoints_agree.Goals as goal

pub returns : goal.returns
returns c = agrees
