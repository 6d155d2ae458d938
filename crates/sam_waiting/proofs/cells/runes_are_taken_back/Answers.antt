use Rattle.sam_pending.proofs.DropLaws.{taken_back}
use Rattle.sam_waiting.proofs.cells.runes_are_taken_back.Goals as goal

pub returns-clause-shown : goal.returns-clause-shown
returns-clause-shown c = λ cs ds p n s t. (taken_back cs ds p n s t).0

pub returns-clause-rasp : goal.returns-clause-rasp
returns-clause-rasp c = λ cs ds p n s t. (taken_back cs ds p n s t).1
