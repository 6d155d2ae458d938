use Rattle.sam_rasp.proofs.Common.{arith, ◌+◌}
use Rattle.sam_rasp.proofs.Rows.{at-index, taken-short}
use Rattle.sam_rasp.proofs.row.list.find.Goals as goal

pub overflow_add-next : goal.overflow_add-next
overflow_add-next g c =
    let xs = c.args.parts.now in
    let i = c.loop-index.index in
    grind (arith, (at-index g.P.Part.members xs i c.index-parts-index.result), (taken-short g.P.Part.members xs (i + 1)))
