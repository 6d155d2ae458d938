use Rattle.sam_joined.proofs.Carrying.{as_if_local}
use Rattle.sam_joined.proofs.laws.endpoints_are_as_if_local.Goals as goal

pub returns : goal.returns
returns c = as_if_local
