use Rattle.sam_link.proofs.Meeting.{good_line_delivers}
use Rattle.sam_link.proofs.laws.good_line_delivers.Goals as goal

pub returns : goal.returns
returns c = good_line_delivers
