use Rattle.std.proofs.Common.{sym, ◌∙◌, arith}
use Rattle.sam_pending.proofs.PassLaws.{lost_on}
use Rattle.sam_pending.proofs.places.behind_drop.Goals as goal

pub loop-block-preserved-then-shown_len-left : goal.loop-block-preserved-then-shown_len-left
loop-block-preserved-then-shown_len-left c =
    let at = c.loop-block in
    let on = lost_on c.args.up_to c.args.group at.left c.args.blocks.now at.block-index c.block-item.result c.loop-block-test.true c.block-item.is
    (sym c.has_due.ensures ∙ c.if-not-has_due.true) (omega (arith, c.newest.ensures, c.if-newest-group.true)) (omega (arith, c.shown_len.ensures, c.if-shown_len-left.true)) in (
      rw c.shown_len-left.ensures (sym on ∙ at.invariant.0),
      omega (arith, at.invariant.1),
    )
