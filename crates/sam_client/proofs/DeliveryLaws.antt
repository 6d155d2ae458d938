-- What is left at a client.
use Rattle.std.proofs.Common.{◌≡◌, ℕ, ◌<◌, ◌^◌, List, [], ◌∷◌, length, true, false, Option, Some, None, refl, sym, ap, ◌∙◌, arith, true≢false}
use Rattle.std.specs.Prelude.{is_some}
use Rattle.sam_pending.specs.Cells.{resting, shown_of}
use Rattle.sam_pending.proofs.CellLaws.{shown_resting}
use Rattle.sam_term.specs.Term.{rasp_at}
use Rattle.sam_endpoint.specs.TermEndpoints.{IsIdle}
use Rattle.sam_overlay.specs.Calls.{PlainOverlay, cells_at, has_edit_at, shown_at}
use Rattle.sam_overlay.specs.Outcomes.{IsNextWaiting}
use Rattle.sam_overlay.specs.declared.ordered.OrderedOverlay.{OrderedOverlay}
use Rattle.sam_client.specs.Delivery.{HasSent}

empty : {A : Type 0} (xs : List A) → length xs ≡ 0 → xs ≡ []
empty [] none = refl
empty (x ∷ xs) none = absurd (omega (arith, none))

nothing : {A : Type 0} (x : Option A) → is_some x ≡ false → x ≡ None
nothing None none = refl
nothing (Some x) none = absurd (true≢false none)

-- where one of these is there, something is left
pub left_asked : (o : OrderedOverlay) → (length o.queue ≡ 0 → ⊥) → HasSent o → ⊥
left_asked o some has = some (ap length has.asked)

pub left_held : (o : OrderedOverlay) → (length o.overlay.end.term.held ≡ 0 → ⊥) → HasSent o → ⊥
left_held o some has = some (ap length has.acted)

pub left_unsent : (o : OrderedOverlay) → is_some o.overlay.end.term.unsent ≡ true → HasSent o → ⊥
left_unsent o some has = true≢false (sym some ∙ ap is_some has.composed)

pub left_pending : (o : OrderedOverlay) → (length o.overlay.end.pending_bytes ≡ 0 → ⊥) → HasSent o → ⊥
left_pending o some has = some (ap length has.sent)

pub left_waiting : (o : OrderedOverlay) (f : ℕ) → f < 2 ^ 16 → IsNextWaiting o.overlay.layers 0 (Some f) → HasSent o → ⊥
left_waiting o f tag (least, some, none) has = true≢false (sym some ∙ has.put f least tag)

pub none_left : (o : OrderedOverlay) → length o.queue ≡ 0 → IsNextWaiting o.overlay.layers 0 None → length o.overlay.end.term.held ≡ 0
    → is_some o.overlay.end.term.unsent ≡ false → length o.overlay.end.pending_bytes ≡ 0 → IsIdle o.overlay.end → HasSent o
none_left o asked put held unsent pending idle = record {
  asked = empty o.queue asked;
  put = put;
  acted = empty o.overlay.end.term.held held;
  composed = nothing o.overlay.end.term.unsent unsent;
  idle = idle;
  sent = empty o.overlay.end.pending_bytes pending;
}

-- where no edit waits, what is shown is the rasp
pub shows_rasp : (o : PlainOverlay) (f : ℕ) → ((g : ℕ) → has_edit_at o g ≡ false → cells_at o g ≡ resting (rasp_at o.end.term g))
    → has_edit_at o f ≡ false → shown_at o f ≡ rasp_at o.end.term f
shows_rasp o f rests none = ap shown_of (rests f none) ∙ shown_resting (rasp_at o.end.term f)

pub ruleset sent_facts = (left_asked, left_held, left_unsent, left_pending, left_waiting, none_left)
