use Rattle.std.proofs.Common.{◌∙◌, ap, sym, arith}
use Rattle.sam_pending.specs.Runs.{first_due}
use Rattle.sam_pending.proofs.BlockLaws.{first-in, first-on, rooms-on}
use Rattle.sam_pending.proofs.blocks.first_due_in.Goals as goal

pub first_due-requires : goal.first_due-requires
first_due-requires c =
    rw c.runs.ensures
    (omega (arith, c.requires, c.loop-block.invariant.1, rooms-on c.args.blocks.now c.loop-block.block-index c.block-item.result c.loop-block-test.true c.block-item.is))

pub returns-then-has_due : goal.returns-then-has_due
returns-then-has_due c =
    let w = c.args.deed in
    c.first_due.ensures
    ∙ (ap (first_due w c.loop-block.at) c.runs.ensures
    ∙ (sym (first-in w c.args.blocks.now c.loop-block.block-index c.loop-block.at c.block-item.result c.loop-block-test.true c.block-item.is (sym c.has_due.ensures ∙ c.if-has_due.true))
    ∙ c.loop-block.invariant.0))

pub overflow_add-at : goal.overflow_add-at
overflow_add-at c =
    omega (arith, c.requires, c.loop-block.invariant.1, c.rasp_len-at.ensures, rooms-on c.args.blocks.now c.loop-block.block-index c.block-item.result c.loop-block-test.true c.block-item.is)

pub loop-block-preserved : goal.loop-block-preserved
loop-block-preserved c =
    let w = c.args.deed in
    let bs = c.args.blocks.now in
    let i = c.loop-block.block-index in
    rw (c.rasp_len-at.ensures) (
      sym (first-on w bs i c.loop-block.at c.block-item.result c.loop-block-test.true c.block-item.is (sym c.has_due.ensures ∙ c.if-has_due.false)) ∙ c.loop-block.invariant.0,
      omega (arith, c.loop-block.invariant.1, rooms-on bs i c.block-item.result c.loop-block-test.true c.block-item.is),
    )
