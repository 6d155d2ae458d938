use Rattle.std.proofs.Common.{ap, sym, subst, ◌∙◌, arith}
use Rattle.sam_pending.specs.Layers.{most_kept}
use Rattle.sam_pending.specs.Runs.{spot, Within}
use Rattle.sam_pending.proofs.BlockLaws.{rooms-on, spot-in, spot-on, within-on}
use Rattle.sam_pending.proofs.blocks.shown_run_in.Goals as goal

pub shown_run-requires-clause-within : goal.shown_run-requires-clause-within
shown_run-requires-clause-within c =
    subst (Within most_kept) (sym c.runs.ensures)
    (within-on c.args.blocks.now c.loop-block.block-index most_kept c.block-item.result c.loop-block-test.true c.block-item.is c.loop-block.invariant.2).0

pub shown_run-requires-clause-held : goal.shown_run-requires-clause-held
shown_run-requires-clause-held c =
    rw c.runs.ensures
    (omega (arith, c.requires.held, c.loop-block.invariant.1, rooms-on c.args.blocks.now c.loop-block.block-index c.block-item.result c.loop-block-test.true c.block-item.is))

pub returns-then-left-shown_len : goal.returns-then-left-shown_len
returns-then-left-shown_len c =
    let b = c.block-item.result in
    c.shown_run.ensures
    ∙ (ap (spot c.loop-block.left c.loop-block.at) c.runs.ensures
    ∙ (sym (spot-in c.args.blocks.now c.loop-block.block-index c.loop-block.left c.loop-block.at b c.loop-block-test.true c.block-item.is (omega (arith, c.if-left-shown_len.true, c.shown_len.ensures)))
    ∙ c.loop-block.invariant.0))

pub overflow_add-at : goal.overflow_add-at
overflow_add-at c =
    omega (arith, c.requires.held, c.loop-block.invariant.1, c.rasp_len-at.ensures, rooms-on c.args.blocks.now c.loop-block.block-index c.block-item.result c.loop-block-test.true c.block-item.is)

pub loop-block-preserved : goal.loop-block-preserved
loop-block-preserved c =
    let bs = c.args.blocks.now in
    let i = c.loop-block.block-index in
    let b = c.block-item.result in
    rw (c.shown_len-left.ensures, c.rasp_len-at.ensures) (
      sym (spot-on bs i c.loop-block.left c.loop-block.at b c.loop-block-test.true c.block-item.is (omega (arith, c.if-left-shown_len.false, c.shown_len.ensures))) ∙ c.loop-block.invariant.0,
      omega (arith, c.loop-block.invariant.1, rooms-on bs i b c.loop-block-test.true c.block-item.is),
      (within-on bs i most_kept b c.loop-block-test.true c.block-item.is c.loop-block.invariant.2).1,
    )
