use Rattle.sam_link.proofs.Meeting.{honest_meet}
use Rattle.sam_link.proofs.laws.honest_meet.Goals as goal

pub returns : goal.returns
returns c = honest_meet
