use Rattle.sam_served.proofs.Following.{served_are_one_run, served_find_no_fault}
use Rattle.sam_served.proofs.laws.served_are_one_run.Goals as goal

pub returns-clause-hellos : goal.returns-clause-hellos
returns-clause-hellos c = served_find_no_fault

pub returns-clause-one_run : goal.returns-clause-one_run
returns-clause-one_run c = served_are_one_run
