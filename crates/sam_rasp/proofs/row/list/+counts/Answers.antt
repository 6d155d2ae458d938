use Rattle.sam_rasp.proofs.Common.{arith}
use Rattle.sam_rasp.proofs.Rows.{members-sum}
use Rattle.sam_rasp.proofs.row.list.+counts.Goals as goal

pub plus-requires : goal.plus-requires
plus-requires g t c =
    (members-sum g.P.Part.members c.in-Some.first.now c.in-Some.others.now c.tally.result c.counts-len.result.1 (grind arith) (grind arith) (grind arith)).0
