use Rattle.sam_line.proofs.SessionLaws.{lines_carry}
use Rattle.sam_line.proofs.laws.lines_carry.Goals as goal

pub returns : goal.returns
returns c = lines_carry
