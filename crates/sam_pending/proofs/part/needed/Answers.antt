use Rattle.std.proofs.Common.{arith}
use Rattle.sam_pending.proofs.PartLaws.{measure-more}
use Rattle.sam_pending.proofs.part.needed.Goals as goal

pub overflow_add-reach : goal.overflow_add-reach
overflow_add-reach c =
    omega (
      arith,
      c.requires.fits,
      c.loop-count.invariant.1,
      c.len-reach.ensures,
      measure-more c.args.side c.args.blocks.now c.loop-count.count c.index-blocks-count.result c.loop-count-test.true c.index-blocks-count.is,
    )
