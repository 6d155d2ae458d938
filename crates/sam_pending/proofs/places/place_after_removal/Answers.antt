use Rattle.std.proofs.Common.{◌∙◌, ap, ◌+◌}
use Rattle.sam_pending.proofs.MarkLaws.{gone_behind}
use Rattle.sam_pending.proofs.places.place_after_removal.Goals as goal

pub overflow_sub-left : goal.overflow_sub-left
overflow_sub-left c = (gone_behind c.args.count c.as_slice.result.now c.as_slice.ensures c.pass-start.ensures.passes).1

pub overflow_sub-p : goal.overflow_sub-p
overflow_sub-p c = (gone_behind c.args.count c.as_slice.result.now c.as_slice.ensures c.pass-start.ensures.passes).0

pub returns : goal.returns
returns c =
    ap (λ z. c.pass-start.result.1.shown_len + z) c.behind_removal.ensures
    ∙ (gone_behind c.args.count c.as_slice.result.now c.as_slice.ensures c.pass-start.ensures.passes).2
