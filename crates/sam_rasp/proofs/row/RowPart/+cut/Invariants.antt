use Rattle.sam_rasp.proofs.row.RowPart.+cut.Given as goal

abbrev pub decreases-cut : goal.decreases-cut
decreases-cut g l = l.n
