use Rattle.sam_line.proofs.ClockLaws.{due_in_is_exact}
use Rattle.sam_line.proofs.laws.due_in_is_exact.Goals as goal

pub returns : goal.returns
returns c = due_in_is_exact
