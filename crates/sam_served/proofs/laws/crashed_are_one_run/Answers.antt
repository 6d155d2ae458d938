use Rattle.sam_served.proofs.Following.{crashed_are_one_run}
use Rattle.sam_served.proofs.laws.crashed_are_one_run.Goals as goal

pub returns : goal.returns
returns c = crashed_are_one_run
