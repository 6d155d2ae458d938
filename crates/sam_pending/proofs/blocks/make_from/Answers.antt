use Rattle.std.proofs.Common.{◌<◌, ◌+◌, ◌∙◌, ap, sym, length, take, drop, arith, length-set}
use Rattle.sam_pending.specs.Blocks.{flat, made_in}
use Rattle.sam_pending.specs.Runs.{made_first, rooms, waits}
use Rattle.sam_pending.proofs.BlockLaws.{block_fits}
use Rattle.sam_pending.proofs.FirstLaws.{drop_set, none-made, none-more, set-read, take_set}
use Rattle.sam_pending.proofs.blocks.make_from.Goals as goal

pub make_first-requires : goal.make_first-requires
make_first-requires c =
    let bs = c.loop-at.blocks.items in
    let within : c.loop-at.at < length bs = omega (arith, c.loop-at-test.true, c.len-at-end.ensures, ap length c.loop-at.invariant.0) in
    omega (
      arith,
      block_fits bs c.loop-at.at c.index_mut-found.result.now within c.index_mut-found.ensures.value,
      ap (λ z. rooms (flat z)) c.loop-at.invariant.0,
      ap (λ z. waits (flat z)) c.loop-at.invariant.0,
      c.requires.fits,
    )

pub returns-then-has_due : goal.returns-then-has_due
returns-then-has_due c =
    let bs = c.loop-at.blocks.items in
    let i = c.loop-at.at in
    let b = c.index_mut-found.result.now in
    let within : i < length bs = omega (arith, c.loop-at-test.true, c.len-at-end.ensures, ap length c.loop-at.invariant.0) in
    rw c.make_first.ensures
    (record {
      made = set-read (made_first c.args.deed) c.args.deed bs i b c.index-block.result.now within c.index_mut-found.ensures.value c.index-block.ensures c.loop-at.invariant.1 (sym c.has_due.ensures ∙ c.if-has_due.true)
          ∙ ap (made_in c.args.deed) c.loop-at.invariant.0;
      len = grind (arith, length-set bs i (made_first c.args.deed b), ap length c.loop-at.invariant.0);
      there = omega (arith, within, length-set bs i (made_first c.args.deed b));
      before = take_set bs i (made_first c.args.deed b) within ∙ ap (take i) c.loop-at.invariant.0;
      behind = drop_set bs i (made_first c.args.deed b) within ∙ ap (drop (i + 1)) c.loop-at.invariant.0;
    })

pub loop-at-preserved : goal.loop-at-preserved
loop-at-preserved c =
    let bs = c.loop-at.blocks.items in
    let within : c.loop-at.at < length bs = omega (arith, c.loop-at-test.true, c.len-at-end.ensures, ap length c.loop-at.invariant.0) in (
      c.loop-at.invariant.0,
      none-more c.args.deed bs c.loop-at.at c.index-block.result.now within c.index-block.ensures c.loop-at.invariant.1 (sym c.has_due.ensures ∙ c.if-has_due.false),
    )

pub returns : goal.returns
returns c =
    let bs = c.loop-at.blocks.items in
    record {
      made = none-made (made_first c.args.deed) c.args.deed bs c.loop-at.at (omega (arith, c.loop-at-test.false, c.len-at-end.ensures, ap length c.loop-at.invariant.0)) c.loop-at.invariant.1
          ∙ ap (made_in c.args.deed) c.loop-at.invariant.0;
      len = omega (arith, ap length c.loop-at.invariant.0);
      there = omega (arith, c.len.ensures);
      before = ap (take c.len.result) c.loop-at.invariant.0;
      behind = ap (drop (c.len.result + 1)) c.loop-at.invariant.0;
    }
