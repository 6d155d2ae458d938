use Rattle.sam_rasp.proofs.Common.{length}
use Rattle.sam_rasp.proofs.row.reading.+agrees.Given as goal

abbrev pub decreases-agrees : goal.decreases-agrees
decreases-agrees g l = length l.parts.now
