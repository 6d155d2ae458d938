use Rattle.std.proofs.Common.{◌+◌, ◌-◌, arith}
use Rattle.sam_runes.proofs.EditSteps.{block_down}
use Rattle.sam_runes.proofs.edits.move_down.Goals as goal

pub loop-at-preserved : goal.loop-at-preserved
loop-at-preserved c =
    let t = c.args.items.now in
    let by = c.args.from - c.args.dest in
    let done = block_down t c.loop-at.items c.copy_through.new.items c.args.from c.args.dest c.loop-at.at (c.loop-at.at + c.min.result) by (omega arith)
    (omega arith) (omega (arith, c.requires.down)) (omega arith) c.loop-at.invariant.3 c.loop-at.invariant.4 c.copy_through.ensures.kept c.copy_through.ensures.done in
    (omega arith, omega arith, omega arith, done.0, done.1)
