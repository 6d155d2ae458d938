use Rattle.std.proofs.Common.{ap, arith}
use Rattle.sam_pending.proofs.MarkLaws.{change_set}
use Rattle.sam_pending.proofs.marks.mark_change.Goals as goal

pub returns-then-count-le-MOST_IN_STRETCH : goal.returns-then-count-le-MOST_IN_STRETCH
returns-then-count-le-MOST_IN_STRETCH c =
    let is = ap (λ z. z.count) c.index.ensures in
    change_set c.args.marks.now.items c.mark_of.result c.index.result.now c.args.blocks.now c.args.number c.args.start c.args.before c.args.after
    (omega (arith, c.if-number-len.true, c.len.ensures)) c.requires.front c.requires.start c.requires.after c.requires.behind (omega (arith, c.if-before-end.true, is))
    (omega (arith, c.mark_of.ensures.count, is)) c.mark_of.ensures.sums
