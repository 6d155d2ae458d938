use Rattle.std.proofs.Common.{◌∙◌, ◌+◌, ap, length, arith, vec_len}
use Rattle.sam_pending.proofs.MarkLaws.{put_behind, put_marks}
use Rattle.sam_pending.proofs.blocks.Blocks.exchange.Goals as goal

pub mark_change-requires-clause-front : goal.mark_change-requires-clause-front
mark_change-requires-clause-front c =
    put_marks c.self.inside.marks.items c.stretch_of-number.result.0 c.args.first (c.args.first + vec_len c.args.made) c.self.inside.blocks.items c.as_slice-blocks.result.now
    c.args.made.items (c.as_slice-blocks.ensures.value ∙ c.exchange.ensures) (omega (arith, c.requires.there, ap length c.self.view_is))
    (rw (← c.as_slice.ensures.value) (omega (arith, c.stretch_of-number.ensures.start, c.stretch_of-number.ensures.before))) c.self.invariant

pub mark_change-requires-clause-behind : goal.mark_change-requires-clause-behind
mark_change-requires-clause-behind c =
    rw (c.stretch_of-number.ensures.start, c.as_slice.ensures.value, c.len.ensures)
    (put_behind c.self.inside.marks.items c.stretch_of-number.result.0 c.args.first (c.args.first + vec_len c.args.made) (c.args.first + vec_len c.args.made) c.self.inside.blocks.items
    c.as_slice-blocks.result.now c.args.made.items (c.as_slice-blocks.ensures.value ∙ c.exchange.ensures) (omega arith) (omega arith)
    (omega (arith, c.requires.there, ap length c.self.view_is)) (omega arith) c.self.invariant)
