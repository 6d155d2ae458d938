use Rattle.sam_line.proofs.ClockLaws.{all_pauses_grow}
use Rattle.sam_line.proofs.laws.pauses_grow.Goals as goal

pub returns : goal.returns
returns c = all_pauses_grow
