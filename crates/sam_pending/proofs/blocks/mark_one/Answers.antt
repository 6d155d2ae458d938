use Rattle.std.proofs.Common.{arith}
use Rattle.sam_pending.proofs.blocks.mark_one.Goals as goal

pub mark_change-requires-clause-front : goal.mark_change-requires-clause-front
mark_change-requires-clause-front c =
    c.requires.front c.stretch_of-number.result.0
    (rw (← c.as_slice.ensures.value) (omega (arith, c.stretch_of-number.ensures.start, c.stretch_of-number.ensures.before)))

pub mark_change-requires-clause-behind : goal.mark_change-requires-clause-behind
mark_change-requires-clause-behind c = rw (c.stretch_of-number.ensures.start, c.as_slice.ensures.value) (c.requires.behind c.stretch_of-number.result.0)
