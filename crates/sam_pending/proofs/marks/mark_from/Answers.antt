use Rattle.std.proofs.Common.{◌≡◌, ◌+◌, ◌≤◌, ◌++◌, ◌∷◌, [], length, subst, sym, ap, arith}
use Rattle.sam_pending.specs.Marks.{spans, IsMarked}
use Rattle.sam_pending.proofs.MarkLaws.{marked_push, spans_append}
use Rattle.sam_pending.proofs.marks.mark_from.Goals as goal

pub loop-at-preserved : goal.loop-at-preserved
loop-at-preserved c =
    let at = c.loop-at in
    let m = c.mark_of.result in
    let fits : at.at + m.count ≤ length c.args.blocks.now = grind (arith, c.mark_of.ensures.count, c.min-count.ensures, at.invariant.2) in
    let pushed = marked_push at.marks.items m c.args.blocks.now at.at at.invariant.0 at.invariant.1 fits c.mark_of.ensures.sums in
    let items : c.push.new.self.items ≡ at.marks.items ++ m ∷ [] = grind (arith, c.push.ensures.items, c.is_err.ensures.value, c.if-is_err.false) in (
      subst (λ z. IsMarked z c.args.blocks.now) (sym items) pushed,
      omega (arith, ap spans items, spans_append at.marks.items (m ∷ []), at.invariant.1, c.mark_of.ensures.count),
      omega (arith, fits, c.mark_of.ensures.count),
    )
