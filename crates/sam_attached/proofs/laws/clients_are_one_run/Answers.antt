use Rattle.sam_attached.proofs.Sessions.{clients_are_one_run}
use Rattle.sam_attached.proofs.laws.clients_are_one_run.Goals as goal

pub returns : goal.returns
returns c = clients_are_one_run
