use Rattle.sam_served.proofs.Following.{crashes_carry}
use Rattle.sam_served.proofs.laws.crashes_carry.Goals as goal

pub returns : goal.returns
returns c = crashes_carry
