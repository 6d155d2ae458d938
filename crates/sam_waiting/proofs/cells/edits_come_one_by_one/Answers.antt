use Rattle.sam_pending.proofs.DueLaws.{made_texts}
use Rattle.sam_waiting.proofs.cells.edits_come_one_by_one.Goals as goal

pub returns-clause-shown : goal.returns-clause-shown
returns-clause-shown c = λ cs ds e m. (made_texts cs e ds m).0

pub returns-clause-rasp : goal.returns-clause-rasp
returns-clause-rasp c = λ cs ds e m. (made_texts cs e ds m).1
