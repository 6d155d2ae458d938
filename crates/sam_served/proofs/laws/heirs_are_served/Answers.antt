use Rattle.sam_served.proofs.Heirs.{heirs_are_served}
use Rattle.sam_served.proofs.laws.heirs_are_served.Goals as goal

pub returns : goal.returns
returns c = heirs_are_served
