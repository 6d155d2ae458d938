use Rattle.sam_term.proofs.Common.{arith}
use Rattle.sam_term.proofs.FullCounts.{refuses_acts}
use Rattle.sam_term.proofs.term.Terminal.can_act.Goals as goal

pub returns-in-Some-Refuses : goal.returns-in-Some-Refuses
returns-in-Some-Refuses c = grind (arith, (refuses_acts c.args.self.now c.in-Some.event.now c.in-Some-Refuses.field-0-0))
