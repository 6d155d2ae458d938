use Rattle.sam_served.proofs.Serving.{served_are_made, served_are_sessions}
use Rattle.sam_served.proofs.laws.served_are_sessions.Goals as goal

pub returns-clause-sessions : goal.returns-clause-sessions
returns-clause-sessions c = served_are_sessions

pub returns-clause-made : goal.returns-clause-made
returns-clause-made c = served_are_made
