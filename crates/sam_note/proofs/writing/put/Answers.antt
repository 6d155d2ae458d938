use Rattle.std.proofs.Common.{arith}
use Rattle.sam_note.proofs.Putting.{puts_all, puts_none}
use Rattle.sam_note.proofs.writing.put.Goals as goal

pub returns-then-there : goal.returns-then-there
returns-then-there c = grind (arith, puts_all)

pub returns-else-there : goal.returns-else-there
returns-else-there c = grind (arith, puts_none)
