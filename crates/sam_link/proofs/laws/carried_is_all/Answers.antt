use Rattle.sam_link.proofs.Meeting.{carried_is_all, lacks_are_kept}
use Rattle.sam_link.proofs.laws.carried_is_all.Goals as goal

pub returns-clause-kept : goal.returns-clause-kept
returns-clause-kept c = lacks_are_kept

pub returns-clause-carried : goal.returns-clause-carried
returns-clause-carried c = carried_is_all
