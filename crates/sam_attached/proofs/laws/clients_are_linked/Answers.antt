use Rattle.sam_attached.proofs.Sessions.{clients_are_linked}
use Rattle.sam_attached.proofs.laws.clients_are_linked.Goals as goal

pub returns : goal.returns
returns c = clients_are_linked
