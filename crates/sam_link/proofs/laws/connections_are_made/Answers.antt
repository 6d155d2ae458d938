use Rattle.sam_link.proofs.Meeting.{connections_are_made}
use Rattle.sam_link.proofs.Turns.{hellos_are_taken, new_connections_meet}
use Rattle.sam_link.proofs.laws.connections_are_made.Goals as goal

pub returns-clause-made : goal.returns-clause-made
returns-clause-made c = connections_are_made

pub returns-clause-taken : goal.returns-clause-taken
returns-clause-taken c = hellos_are_taken

pub returns-clause-met : goal.returns-clause-met
returns-clause-met c = new_connections_meet
