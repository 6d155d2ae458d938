use Rattle.sam_line.proofs.LineLaws.{lines_are_timely}
use Rattle.sam_line.proofs.laws.lines_are_timely.Goals as goal

pub returns : goal.returns
returns c = lines_are_timely
