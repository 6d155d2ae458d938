use Rattle.sam_line.proofs.ClockLaws.{missing_for_a_minute}
use Rattle.sam_line.proofs.laws.missing_for_a_minute.Goals as goal

pub returns : goal.returns
returns c = missing_for_a_minute
