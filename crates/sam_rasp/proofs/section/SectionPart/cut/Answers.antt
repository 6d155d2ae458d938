use Rattle.sam_rasp.proofs.Common.{arith}
use Rattle.sam_rasp.proofs.SectionLaws.{cut_gaps, length-cells}
use Rattle.sam_rasp.proofs.section.SectionPart.cut.Goals as goal

pub returns-in-Hole : goal.returns-in-Hole
returns-in-Hole c = grind (arith, (length-cells c.args.self.now), cut_gaps)
