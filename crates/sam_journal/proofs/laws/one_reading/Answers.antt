use Rattle.sam_journal.proofs.FileLaws.{one_reading}
use Rattle.sam_journal.proofs.Fronts.{one_list}
use Rattle.sam_journal.proofs.laws.one_reading.Goals as goal

pub returns-clause-answer : goal.returns-clause-answer
returns-clause-answer c = one_reading

pub returns-clause-records : goal.returns-clause-records
returns-clause-records c = one_list
