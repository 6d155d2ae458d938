use Rattle.sam_attached.proofs.Times.{clients_are_timely}
use Rattle.sam_attached.proofs.laws.clients_are_timely.Goals as goal

pub returns : goal.returns
returns c = clients_are_timely
