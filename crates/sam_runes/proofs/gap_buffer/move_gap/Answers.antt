use Rattle.std.proofs.Common.{◌+◌, ◌-◌, arith, refl, length-take-le}
use Rattle.sam_runes.proofs.GapSteps.{gap_down, gap_up}
use Rattle.sam_runes.proofs.gap_buffer.move_gap.Goals as goal

pub returns-then-p-start-clause-text : goal.returns-then-p-start-clause-text
returns-then-p-start-clause-text c =
    gap_down c.args.items.now c.move_up.new.items c.args.start c.args.end c.args.p c.requires.ascending (omega arith) c.move_up.ensures.kept c.move_up.ensures.done

pub returns-else-p-start-clause-text : goal.returns-else-p-start-clause-text
returns-else-p-start-clause-text c =
    gap_up c.args.items.now c.move_down.new.items c.args.start c.args.end c.args.p (c.args.end + (c.args.p - c.args.start)) c.requires.ascending c.requires.within
    (omega arith) refl (omega (arith, c.requires.place)) (grind (arith, length-take-le)) (grind (arith, length-take-le))
