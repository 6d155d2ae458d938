use Rattle.sam_journal.proofs.FileLaws.{records_are_read}
use Rattle.sam_journal.proofs.laws.records_are_read.Goals as goal

pub returns : goal.returns
returns c = records_are_read
