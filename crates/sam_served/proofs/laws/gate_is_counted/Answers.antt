use Rattle.sam_served.proofs.Counting.{gate_is_counted}
use Rattle.sam_served.proofs.laws.gate_is_counted.Goals as goal

pub returns : goal.returns
returns c = gate_is_counted
