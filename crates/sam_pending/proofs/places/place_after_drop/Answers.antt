use Rattle.std.proofs.Common.{◌∙◌, ap, ◌+◌}
use Rattle.sam_pending.proofs.MarkLaws.{lost_behind}
use Rattle.sam_pending.proofs.places.place_after_drop.Goals as goal

pub overflow_sub-place : goal.overflow_sub-place
overflow_sub-place c = (lost_behind c.as_slice.result.now c.as_slice.ensures c.pass-start.ensures.passes).0

pub returns : goal.returns
returns c =
    ap (λ z. c.pass-start.result.1.shown_len + z) c.behind_drop.ensures
    ∙ (lost_behind c.as_slice.result.now c.as_slice.ensures c.pass-start.ensures.passes).1
