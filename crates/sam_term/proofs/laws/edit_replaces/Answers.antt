use Rattle.sam_term.proofs.Pieces.{edit_locks}
use Rattle.sam_term.proofs.laws.edit_replaces.Goals as goal

pub returns-clause-locks : goal.returns-clause-locks
returns-clause-locks c = edit_locks
