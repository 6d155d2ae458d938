use Rattle.std.proofs.Common.{arith}
use Rattle.sam_overlay.proofs.MarkLaws.{rasp_inserts, rasp_removes}
use Rattle.sam_overlay.proofs.marks.moved_in_rasp.Goals as goal

pub returns-in-Inserts : goal.returns-in-Inserts
returns-in-Inserts c g r size =
    rw c.in-Inserts.is
    (rasp_inserts c.args.len c.in-Inserts.p c.in-Inserts.count c.args.place c.min.result c.behind.result (grind (arith, c.min.ensures))
    (grind (arith, c.behind.ensures)) g r size)

pub returns-in-Removes : goal.returns-in-Removes
returns-in-Removes c g r size =
    rw c.in-Removes.is
    (rasp_removes c.args.len c.in-Removes.p c.in-Removes.count c.args.place c.saturating_sub.result
    (grind (arith, c.saturating_sub.ensures, c.min-in-Removes-2.ensures, c.saturating_sub-before.ensures, c.min-in-Removes.ensures)) g r size)
