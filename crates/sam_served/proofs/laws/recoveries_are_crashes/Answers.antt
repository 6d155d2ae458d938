use Rattle.sam_served.proofs.Recoveries.{recoveries_are_crashes, recoveries_go_on}
use Rattle.sam_served.proofs.laws.recoveries_are_crashes.Goals as goal

pub returns-clause-crashes : goal.returns-clause-crashes
returns-clause-crashes c = recoveries_are_crashes

pub returns-clause-go_on : goal.returns-clause-go_on
returns-clause-go_on c = recoveries_go_on
