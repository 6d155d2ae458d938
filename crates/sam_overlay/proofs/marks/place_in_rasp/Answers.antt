use Rattle.std.proofs.Common.{arith}
use Rattle.sam_overlay.proofs.MarkLaws.{rasp_within}
use Rattle.sam_overlay.proofs.marks.place_in_rasp.Goals as goal

pub returns : goal.returns
returns c g r size =
    rasp_within c.args.len c.args.place c.moved_in_rasp.result c.args.plan (grind (arith, c.if-place-len.false)) c.moved_in_rasp.ensures g r size
