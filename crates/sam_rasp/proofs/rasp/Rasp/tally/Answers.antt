use Rattle.sam_rasp.proofs.Common.{arith}
use Rattle.sam_rasp.proofs.Measuring.{between}
use Rattle.sam_rasp.proofs.rasp.Rasp.tally.Goals as goal

pub minus-requires : goal.minus-requires
minus-requires c =
    (between c.args.self.now c.args.p c.args.q c.tally_before.result c.tally_before-before.result (grind arith) (grind arith) (grind arith)).0
