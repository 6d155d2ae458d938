use Rattle.std.proofs.Common.{◌≡◌, ◌≤◌, refl, subst, false, length, arith}
use Rattle.std.specs.Prelude.{max, min}
use Rattle.sam_overlay.specs.Calls.{IsIdle, PlainOverlay}
use Rattle.sam_overlay.specs.Overlays.{AreOver}
use Rattle.sam_overlay.proofs.QueueLaws.{acts_all}
use Rattle.sam_overlay.proofs.RequestLaws.{event_finds}
use Rattle.sam_overlay.proofs.overlay.Overlay.can_act.Goals as goal

pub returns-clause-can : goal.returns-clause-can
returns-clause-can c =
    let o = c.args.self.now in
    let idle : IsIdle o = c.is_idle.ensures.0 (grind (arith, c.if-not-is_idle.false)) in
    let unlocked : o.end.term.command_lock ≡ false = grind (arith, c.command_locked.ensures, c.term.ensures, c.if-command_locked.false, c.self.view_is) in
    let past : min (max (length o.end.term.files) (length o.layers)) 65536 ≤ c.loop-index.index =
    grind (arith, c.loop-index-test.false, c.min-index-end.ensures, c.max-count.ensures, c.len.ensures, c.files.ensures, c.term-2.ensures, c.self.view_is) in
    (λ t. acts_all o c.args.event.now c.args.group c.loop-index.index idle unlocked c.loop-index.invariant past, λ h. refl)

pub returns-clause-finds : goal.returns-clause-finds
returns-clause-finds c t =
    let over = c.self.invariant.over in
    event_finds c.args.self.now c.args.event.now c.args.group (subst (λ (o : PlainOverlay). AreOver o.end.term o.layers) c.self.view_is over) ((returns-clause-can c).0 t)
