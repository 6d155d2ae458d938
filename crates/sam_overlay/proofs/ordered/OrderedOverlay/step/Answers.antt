use Rattle.std.proofs.Common.{◌≡◌, ◌∙◌, ap, arith}
use Rattle.sam_pending.specs.Cells.{text_at}
use Rattle.sam_overlay.specs.Calls.{PlainOverlay, cells_at}
use Rattle.sam_overlay.proofs.ordered.OrderedOverlay.step.Goals as goal
use Rattle.sam_overlay.proofs.ordered.OrderedOverlay.step.Goals.{then-is_received, else-is_received}

pub returns-clause-texts : goal.returns-clause-texts
returns-clause-texts c f g h k p l up =
    let same : c.if-is_received.self.overlay ≡ c.step-2.new.self =
    elim c.if-is_received.branch [ then-is_received w ↦ grind (arith, w.self-is) | else-is_received w ↦ grind (arith, w.self-is) ] in
    ap (λ (o : PlainOverlay). text_at h (cells_at o k)) same ∙ c.in_ok-step.ensures.texts f g h k p l up
