use Rattle.sam_attached.proofs.Resting.{resting_clients_are_done}
use Rattle.sam_attached.proofs.Times.{clients_are_never_stuck}
use Rattle.sam_attached.proofs.laws.clients_are_never_stuck.Goals as goal

pub returns-clause-lines : goal.returns-clause-lines
returns-clause-lines c = clients_are_never_stuck

pub returns-clause-requests : goal.returns-clause-requests
returns-clause-requests c = resting_clients_are_done
