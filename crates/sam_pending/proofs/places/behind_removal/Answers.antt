use Rattle.std.proofs.Common.{◌-◌, ap, sym, ◌∙◌, arith}
use Rattle.sam_pending.proofs.PassLaws.{gone_on}
use Rattle.sam_pending.proofs.places.behind_removal.Goals as goal

pub loop-block-preserved-then-shown_len-left : goal.loop-block-preserved-then-shown_len-left
loop-block-preserved-then-shown_len-left c =
    let at = c.loop-block in
    let on = gone_on c.args.group at.skipped at.range at.left c.args.blocks.now at.block-index c.block-item.result c.loop-block-test.true c.block-item.is
    (omega (arith, c.newest.ensures, c.if-newest-group.true)) (omega (arith, c.rasp_len.ensures, c.if-rasp_len-skipped.true)) (omega (arith, c.shown_len.ensures, c.if-shown_len-left.true)) in
    rw (c.shown_len-left.ensures, c.rasp_len-skipped.ensures) (ap (λ z. at.after - z) (sym on) ∙ at.invariant)
