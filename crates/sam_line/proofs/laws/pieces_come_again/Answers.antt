use Rattle.sam_line.proofs.AgainLaws.{pieces_come_again}
use Rattle.sam_line.proofs.laws.pieces_come_again.Goals as goal

pub returns : goal.returns
returns c = pieces_come_again
