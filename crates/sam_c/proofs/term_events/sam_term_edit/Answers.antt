use Rattle.std.proofs.Common.{arith}
use Rattle.sam_c.proofs.Putting.{text-put}
use Rattle.sam_c.proofs.term_events.sam_term_edit.Goals as goal

pub returns-in-Ok : goal.returns-in-Ok
returns-in-Ok c = grind (arith, text-put)
