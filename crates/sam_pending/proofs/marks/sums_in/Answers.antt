use Rattle.std.proofs.Common.{◌≡◌, ◌+◌, ◌∙◌, ap, take}
use Rattle.sam_pending.specs.Blocks.{flat}
use Rattle.sam_pending.specs.Marks.{plus, sums_of}
use Rattle.sam_pending.proofs.MarkLaws.{one_fits, sums_one}
use Rattle.sam_pending.proofs.marks.sums_in.Goals as goal

pub plus-sums-requires-clause-rasp : goal.plus-sums-requires-clause-rasp
plus-sums-requires-clause-rasp c =
    (one_fits c.args.blocks.now c.loop-block.block-index c.block-item.result c.loop-block.sums c.sums.result c.loop-block-test.true c.block-item.is
    c.loop-block.invariant c.sums.ensures c.requires).rasp

pub plus-sums-requires-clause-waiting : goal.plus-sums-requires-clause-waiting
plus-sums-requires-clause-waiting c =
    (one_fits c.args.blocks.now c.loop-block.block-index c.block-item.result c.loop-block.sums c.sums.result c.loop-block-test.true c.block-item.is
    c.loop-block.invariant c.sums.ensures c.requires).waiting

pub plus-sums-requires-clause-shown : goal.plus-sums-requires-clause-shown
plus-sums-requires-clause-shown c =
    (one_fits c.args.blocks.now c.loop-block.block-index c.block-item.result c.loop-block.sums c.sums.result c.loop-block-test.true c.block-item.is
    c.loop-block.invariant c.sums.ensures c.requires).shown

pub loop-block-preserved : goal.loop-block-preserved
loop-block-preserved c =
    let at = c.loop-block in
    let more : c.plus-sums.result ≡ sums_of (flat (take (at.block-index + 1) c.args.blocks.now)) =
    c.plus-sums.ensures
    ∙ (ap (plus at.sums) c.sums.ensures ∙ sums_one c.args.blocks.now at.block-index c.block-item.result at.sums c.loop-block-test.true c.block-item.is at.invariant) in
    more
