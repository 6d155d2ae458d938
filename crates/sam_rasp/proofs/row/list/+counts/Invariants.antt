use Rattle.sam_rasp.proofs.Common.{length}
use Rattle.sam_rasp.proofs.row.list.+counts.Given as goal

abbrev pub decreases-counts : goal.decreases-counts
decreases-counts g l = length l.parts.now
