use Rattle.std.proofs.Common.{◌∙◌, ap, sym, arith}
use Rattle.sam_pending.specs.Runs.{first_typed}
use Rattle.sam_pending.proofs.BlockLaws.{above-on, typed-in, typed-on}
use Rattle.sam_pending.proofs.blocks.first_typed_in.Goals as goal

pub first_typed-requires : goal.first_typed-requires
first_typed-requires c =
    rw c.runs.ensures
    (omega (arith, c.requires, c.loop-block.invariant.1, above-on c.args.blocks.now c.loop-block.block-index c.block-item.result c.loop-block-test.true c.block-item.is))

pub returns-then-has_due : goal.returns-then-has_due
returns-then-has_due c =
    let m = c.args.up_to in
    c.first_typed.ensures
    ∙ (ap (first_typed m c.loop-block.at) c.runs.ensures
    ∙ (sym (typed-in m c.args.blocks.now c.loop-block.block-index c.loop-block.at c.block-item.result c.loop-block-test.true c.block-item.is (sym c.has_due.ensures ∙ c.if-has_due.true))
    ∙ c.loop-block.invariant.0))

pub overflow_add-at : goal.overflow_add-at
overflow_add-at c =
    omega (arith, c.requires, c.loop-block.invariant.1, c.shown_len-at.ensures, above-on c.args.blocks.now c.loop-block.block-index c.block-item.result c.loop-block-test.true c.block-item.is)

pub loop-block-preserved : goal.loop-block-preserved
loop-block-preserved c =
    let m = c.args.up_to in
    let bs = c.args.blocks.now in
    let i = c.loop-block.block-index in
    rw (c.shown_len-at.ensures) (
      sym (typed-on m bs i c.loop-block.at c.block-item.result c.loop-block-test.true c.block-item.is (sym c.has_due.ensures ∙ c.if-has_due.false)) ∙ c.loop-block.invariant.0,
      omega (arith, c.loop-block.invariant.1, above-on bs i c.block-item.result c.loop-block-test.true c.block-item.is),
    )
