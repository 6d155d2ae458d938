use Rattle.sam_rasp.proofs.Common.{arith}
use Rattle.sam_rasp.proofs.Measuring.{line-found}
use Rattle.sam_rasp.proofs.rasp.Rasp.line_after.Goals as goal

pub returns-then-place-p : goal.returns-then-place-p
returns-then-place-p c =
    let found =
    line-found c.args.self.now c.args.p c.args.lines c.tally_before-before.result.newlines c.tally.result.newlines c.reached-place.result (grind arith) (grind arith)
    (grind arith) (grind arith) (grind arith) in
    grind (arith, found)
