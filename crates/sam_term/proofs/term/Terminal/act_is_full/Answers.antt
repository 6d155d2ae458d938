use Rattle.sam_term.proofs.Common.{arith}
use Rattle.sam_term.proofs.FullCounts.{refused_not_full}
use Rattle.sam_term.proofs.term.Terminal.act_is_full.Goals as goal

pub returns-in-Some-verdict : goal.returns-in-Some-verdict
returns-in-Some-verdict c = grind (arith, (refused_not_full c.args.self.now c.in-Some.event.now c.in-Some-verdict.field-0))
