use Rattle.sam_end_to_end.proofs.Sessions.{clients_stop_for_full_counts, sessions_are_one_run}
use Rattle.sam_end_to_end.proofs.laws.sessions_are_one_run.Goals as goal

pub returns-clause-one_run : goal.returns-clause-one_run
returns-clause-one_run c = sessions_are_one_run

pub returns-clause-stops : goal.returns-clause-stops
returns-clause-stops c = clients_stop_for_full_counts
