use Rattle.sam_rasp.proofs.Common.{arith, cells}
use Rattle.sam_rasp.proofs.Rows.{some-insert}
use Rattle.sam_rasp.proofs.section.list.insert.Goals as goal

pub returns-clause-some : goal.returns-clause-some
returns-clause-some c = grind (arith, (some-insert cells c.args.sections.now.items c.args.index c.args.section))
