use Rattle.std.proofs.Common.{◌∙◌, ap, ◌+◌, arith}
use Rattle.sam_pending.proofs.MarkLaws.{before, place_behind}
use Rattle.sam_pending.proofs.places.place_at.Goals as goal

pub overflow_sub-place : goal.overflow_sub-place
overflow_sub-place c = (place_behind c.as_slice.result.now c.as_slice.ensures c.pass-start.ensures.passes).0

pub place_behind-requires : goal.place_behind-requires
place_behind-requires c = omega (arith, (before c.as_slice.result.now c.as_slice.ensures c.pass-start.ensures.passes).fits, c.requires)

pub overflow_add-result : goal.overflow_add-result
overflow_add-result c =
    omega (arith, (before c.as_slice.result.now c.as_slice.ensures c.pass-start.ensures.passes).place, c.place_behind.ensures.most, c.requires)

pub returns : goal.returns
returns c =
    ap (λ z. c.pass-start.result.1.shown_len + z) c.place_behind.ensures.before
    ∙ (place_behind c.as_slice.result.now c.as_slice.ensures c.pass-start.ensures.passes).1
