use Rattle.std.proofs.Common.{◌≡◌, ◌∙◌, refl, sym, subst, drop, slice_get, Some, None, Ok, true, false, arith}
use Rattle.sam_overlay.specs.Calls.{CanAct}
use Rattle.sam_overlay.specs.Overlays.{is_request}
use Rattle.sam_endpoint.specs.TermStepping.{BringsEvent}
use Rattle.sam_term.specs.declared.event.UserEvent.{UserEvent}
use Rattle.sam_overlay.proofs.OrderLaws.{asks_none}
use Rattle.sam_overlay.proofs.QueueLaws.{first_is, no_first}
use Rattle.sam_overlay.proofs.ordered.OrderedOverlay.act_next.Goals as goal

pub returns-in_default-first : goal.returns-in_default-first
returns-in_default-first c =
    let none : slice_get c.args.self.now.queue 0 ≡ None = grind (arith, c.first.ensures, c.in_default-first.is) in
    (no_first c.args.self.now.queue none, refl)

pub returns-then-not-can_act : goal.returns-then-not-can_act
returns-then-not-can_act c =
    let r = c.in-Some-first.request.now in
    let first : slice_get c.args.self.now.queue 0 ≡ Some r = grind (arith, c.first.ensures, c.in-Some-first.is) in
    let not : CanAct c.args.self.now.overlay r.event r.group → ⊥ =
    λ h. let wrong : true ≡ false = sym (c.can_act.ensures.can.1 h) ∙ c.if-not-can_act.true in absurd cc in
    (record { request = r; rest = drop 1 c.args.self.now.queue; old = first_is c.args.self.now.queue r first; not = not }, refl)

pub bring_event-requires : goal.bring_event-requires
bring_event-requires c =
    let r = c.in-Some-first.request.now in
    let is : is_request r.event ≡ true = grind (arith, c.first.ensures, c.in-Some-first.is) in
    subst (λ (e : UserEvent). is_request e ≡ true) (sym c.in-Ok.ensures) is

pub returns-in-Ok-bring_event : goal.returns-in-Ok-bring_event
returns-in-Ok-bring_event c =
    let o = c.args.self.now.overlay in
    let r = c.in-Some-first.request.now in
    let first : slice_get c.args.self.now.queue 0 ≡ Some r = grind (arith, c.first.ensures, c.in-Some-first.is) in
    let can : CanAct o r.event r.group = c.can_act.ensures.can.0 c.if-not-can_act.false in
    let brings = asks_none o.end o.layers o.putting o.limit c.bring_event.new.self c.in-Ok.event (Ok tt) can.idle.putting c.in-Ok-bring_event.ensures in
    record {
      request = r;
      rest = drop 1 c.args.self.now.queue;
      old = first_is c.args.self.now.queue r first;
      new = c.drop_first.ensures;
      can = can;
      finds = c.can_act.ensures.finds c.if-not-can_act.false;
      brings = subst (λ (e : UserEvent). BringsEvent o.end e (Ok tt) c.bring_event.new.self.end) c.in-Ok.ensures brings.0;
      keeps = brings.1;
    }
