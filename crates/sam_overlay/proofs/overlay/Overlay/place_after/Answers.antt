use Rattle.std.proofs.Common.{◌≡◌, subst, false, length, Some, None, slice_get, arith}
use Rattle.sam_runes.specs.Slots.{slot}
use Rattle.sam_term.specs.Term.{rasp_at}
use Rattle.sam_overlay.specs.Calls.{PlainOverlay, cells_at}
use Rattle.sam_overlay.specs.Effects.{plan_of}
use Rattle.sam_overlay.specs.Overlays.{AreOver, first_effect}
use Rattle.sam_overlay.proofs.MarkLaws.{frame_elsewhere, frame_here, no_frame, pending_frame, rasp_frame}
use Rattle.sam_overlay.proofs.overlay.Overlay.place_after.Goals as goal

pub returns-in_default : goal.returns-in_default
returns-in_default c =
    let o = c.args.self.now in
    let none : slice_get o.end.waiting 0 ≡ None = grind (arith, c.first_frame.ensures, c.in_default.is, c.self.view_is) in
    no_frame o.end.waiting c.args.tag c.args.group c.args.place (cells_at o c.args.tag) none

pub returns-then-file-tag : goal.returns-then-file-tag
returns-then-file-tag c =
    let o = c.args.self.now in
    let first : slice_get o.end.waiting 0 ≡ Some c.in-Some.frame.now = grind (arith, c.first_frame.ensures, c.in-Some.is, c.self.view_is) in
    frame_elsewhere o.end.waiting c.in-Some.frame.now c.of-file.result c.args.tag c.args.group c.args.place (cells_at o c.args.tag) first
    c.of-file.ensures (grind (arith, c.if-file-tag.true))

pub returns-in-Some-at : goal.returns-in-Some-at
returns-in-Some-at c =
    let o = c.args.self.now in
    let first : slice_get o.end.waiting 0 ≡ Some c.in-Some.frame.now = grind (arith, c.first_frame.ensures, c.in-Some.is, c.self.view_is) in
    let here : plan_of (first_effect o.end.waiting c.args.tag) ≡ c.of-file.result.plan =
    frame_here o.end.waiting c.in-Some.frame.now c.of-file.result c.args.tag first c.of-file.ensures (grind (arith, c.if-file-tag.false)) in
    let has : slot o.layers c.args.tag ≡ Some c.in-Some-at.pending.now = grind (arith, c.at.ensures, c.in-Some-at.is, c.self.view_is) in
    pending_frame o c.in-Some-at.pending.now c.args.tag c.args.group c.args.place c.place_in_pending.result c.of-file.result.plan has
    (subst (λ (o : PlainOverlay). AreOver o.end.term o.layers) c.self.view_is c.self.invariant.over) here c.place_in_pending.ensures

pub returns-in-None : goal.returns-in-None
returns-in-None c =
    let o = c.args.self.now in
    let first : slice_get o.end.waiting 0 ≡ Some c.in-Some.frame.now = grind (arith, c.first_frame.ensures, c.in-Some.is, c.self.view_is) in
    let here : plan_of (first_effect o.end.waiting c.args.tag) ≡ c.of-file.result.plan =
    frame_here o.end.waiting c.in-Some.frame.now c.of-file.result c.args.tag first c.of-file.ensures (grind (arith, c.if-file-tag.false)) in
    let has : slot o.layers c.args.tag ≡ None = grind (arith, c.at.ensures, c.in-None.is, c.self.view_is) in
    let size : c.rasp_len.result ≡ length (rasp_at o.end.term c.args.tag) = grind (arith, c.rasp_len.ensures, c.term.ensures, c.self.view_is) in
    rasp_frame o c.args.tag c.args.group c.args.place c.place_in_rasp.result c.rasp_len.result c.of-file.result.plan has size here
    c.place_in_rasp.ensures
