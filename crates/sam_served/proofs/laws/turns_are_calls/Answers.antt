use Rattle.sam_served.proofs.Turning.{turns_are_calls}
use Rattle.sam_served.proofs.laws.turns_are_calls.Goals as goal

pub returns : goal.returns
returns c = turns_are_calls
