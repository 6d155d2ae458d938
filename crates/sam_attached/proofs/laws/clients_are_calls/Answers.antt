use Rattle.sam_attached.proofs.Runs.{clients_are_calls, notes_come_behind}
use Rattle.sam_attached.proofs.laws.clients_are_calls.Goals as goal

pub returns-clause-calls : goal.returns-clause-calls
returns-clause-calls c = clients_are_calls

pub returns-clause-notes : goal.returns-clause-notes
returns-clause-notes c = notes_come_behind
