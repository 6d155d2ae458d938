use Rattle.sam_rasp.proofs.Common.{arith}
use Rattle.sam_rasp.proofs.Changes.{one-more}
use Rattle.sam_rasp.proofs.rasp.put_runes.Goals as goal

pub loop-at-preserved : goal.loop-at-preserved
loop-at-preserved c =
    grind (
      arith,
      (one-more c.args.sections.now c.loop-at.sections c.put.new.self c.args.p c.loop-at.at c.min-end.result c.args.runes.now),
    )
