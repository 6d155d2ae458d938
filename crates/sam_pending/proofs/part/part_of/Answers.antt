use Rattle.std.proofs.Common.{arith}
use Rattle.sam_pending.specs.Blocks.{flat}
use Rattle.sam_pending.proofs.PartLaws.{is_part, measure-most, others-measure}
use Rattle.sam_pending.proofs.part.part_of.Goals as goal

pub needed-count-requires-clause-there : goal.needed-count-requires-clause-there
needed-count-requires-clause-there c =
    let s = c.skipped-first.ensures in
    rw c.as_slice.ensures (omega (arith, s.place, c.requires.ascending, c.requires.there, others-measure c.args.side c.args.blocks.now c.skipped-first.result.0))

pub needed-count-requires-clause-fits : goal.needed-count-requires-clause-fits
needed-count-requires-clause-fits c =
    rw c.as_slice.ensures (omega (arith, c.requires.fits, measure-most c.args.side (flat c.args.blocks.now), others-measure c.args.side c.args.blocks.now c.skipped-first.result.0))

pub returns : goal.returns
returns c =
    is_part c.args.side c.args.blocks.now c.args.p c.args.q c.skipped-first.result.0 c.needed-count.result c.skipped-first.result.1 c.in_ok-runs.runs.items
    c.skipped-first.ensures (rw (← c.as_slice.ensures) c.needed-count.ensures.count) (rw (← c.as_slice.ensures) c.needed-count.ensures.there) (rw (← c.as_slice.ensures) c.in_ok-runs.ensures)
