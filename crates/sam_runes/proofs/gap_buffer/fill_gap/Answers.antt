use Rattle.std.proofs.Common.{◌-◌, ◌≤◌, length, arith}
use Rattle.sam_runes.proofs.GapSteps.{gap_filled}
use Rattle.sam_runes.proofs.gap_buffer.fill_gap.Goals as goal

pub returns-clause-text : goal.returns-clause-text
returns-clause-text c =
    let inside : c.args.p ≤ length c.move_gap.new.items = omega (arith, c.requires.place, c.move_gap.ensures.len) in
    gap_filled _ c.move_gap.new.items c.put.new.items c.args.runes.now c.args.p (c.args.end - c.args.start) inside (omega (arith, c.requires.ascending))
    c.move_gap.ensures.text c.put.ensures.kept c.put.ensures.done
