use Rattle.sam_end_to_end.proofs.Journals.{journals_are_crashes}
use Rattle.sam_end_to_end.proofs.laws.journals_are_crashes.Goals as goal

pub returns : goal.returns
returns c = journals_are_crashes
