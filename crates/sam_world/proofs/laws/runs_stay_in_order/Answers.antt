use Rattle.sam_crossing.proofs.OrderLaws as laws
use Rattle.sam_world.proofs.laws.runs_stay_in_order.Goals as goal

pub returns-clause-run : goal.returns-clause-run
returns-clause-run c = laws.runs_in_order

pub returns-clause-reached : goal.returns-clause-reached
returns-clause-reached c = laws.reached_in_order
