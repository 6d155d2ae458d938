use Rattle.sam_rasp.proofs.Common.{arith, cells}
use Rattle.sam_rasp.proofs.RaspLaws.{length_agrees}
use Rattle.sam_rasp.proofs.SectionLaws.{length-cells}
use Rattle.sam_rasp.proofs.section.SectionPart.agrees.Goals as goal

pub returns-else-text-len : goal.returns-else-text-len
returns-else-text-len c = grind (arith, (length-cells c.args.self.now), (length_agrees (cells c.args.self.now) c.args.text.now))
