use Rattle.sam_journal.proofs.FileLaws.{fronts_are_read}
use Rattle.sam_journal.proofs.laws.fronts_are_read.Goals as goal

pub returns : goal.returns
returns c = fronts_are_read
