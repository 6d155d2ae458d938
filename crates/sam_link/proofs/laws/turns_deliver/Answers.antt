use Rattle.sam_link.proofs.Turns.{turns_deliver}
use Rattle.sam_link.proofs.laws.turns_deliver.Goals as goal

pub returns : goal.returns
returns c = turns_deliver
