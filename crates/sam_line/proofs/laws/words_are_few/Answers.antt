use Rattle.sam_line.proofs.LineLaws.{words_are_few}
use Rattle.sam_line.proofs.laws.words_are_few.Goals as goal

pub returns : goal.returns
returns c = words_are_few
