use Rattle.sam_line.proofs.AllLaws.{has_all_is_true}
use Rattle.sam_line.proofs.laws.has_all_is_true.Goals as goal

pub returns : goal.returns
returns c = has_all_is_true
