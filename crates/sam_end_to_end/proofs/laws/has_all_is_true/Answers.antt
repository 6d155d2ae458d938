use Rattle.sam_end_to_end.proofs.Delivery.{has_all_is_true}
use Rattle.sam_end_to_end.proofs.laws.has_all_is_true.Goals as goal

pub returns : goal.returns
returns c = has_all_is_true
