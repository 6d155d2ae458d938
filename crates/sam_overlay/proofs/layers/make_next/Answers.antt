use Rattle.std.proofs.Common.{◌≡◌, subst, arith}
use Rattle.sam_pending.specs.Cells.{put}
use Rattle.sam_pending.specs.Groups.{IsMadeBy}
use Rattle.sam_pending.specs.Layers.{Layer, cells_over}
use Rattle.sam_pending.specs.Runs.{edit_change}
use Rattle.sam_overlay.specs.Outcomes.{IsNextMadeBy}
use Rattle.sam_overlay.proofs.OutcomeLaws.{layer-is}
use Rattle.sam_overlay.proofs.layers.make_next.Goals as goal

pub returns-in-Some-clause-groups : goal.returns-in-Some-clause-groups
returns-in-Some-clause-groups c l is =
    let old : Layer = c.in-Some.pending in
    let same : old ≡ l = layer-is old l (grind (arith, c.in-Some.is, is)) in
    let made : IsNextMadeBy c.args.up_to old =
    λ g r e named over next. subst (λ (k : Layer). IsMadeBy g (cells_over r old) (edit_change e) (cells_over (put r (edit_change e)) k)) c.make_next.ensures.made
    (c.make_next.ensures.groups g r e named over next) in
    subst (IsNextMadeBy c.args.up_to) same made
