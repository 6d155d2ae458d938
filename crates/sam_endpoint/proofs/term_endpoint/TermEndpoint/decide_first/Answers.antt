use Rattle.sam_endpoint.proofs.Common.{◌≡◌, ◌∙◌, ap, subst, sym, HFrame, Tmesg, TermStop, ◌-◌, [], Ok, arith, append-nil, AllFit, FitMessages, FitsT, All-nil, composed_in, act_of, idle_still, locked_still, Idle, Locked, Done, Refused, PlainTermEndpoint, oldest, shown, ActsFirst}
use Rattle.sam_endpoint.specs.Duplexes.{PlainDuplex}
use Rattle.sam_endpoint.specs.TermSteps.{Decides, IsSound}
use Rattle.sam_endpoint.specs.declared.step.Decision.TheVariants as decision
use Rattle.sam_endpoint.proofs.TermEndpointSteps.{with_duplex, settled_counted, acted_is, acted_stamped, acted_first, refused_number}
use Rattle.sam_endpoint.proofs.term_endpoint.TermEndpoint.decide_first.Goals as goal

pub invariant_of-self-in-Ok-Idle : goal.invariant_of-self-in-Ok-Idle
invariant_of-self-in-Ok-Idle c =
    let act : act_of c.self.inside.term ≡ Ok (c.act_now.new.term, Idle) = subst (λ a. act_of c.self.inside.term ≡ Ok (c.act_now.new.term, a)) c.in-Ok-Idle.field-0-is c.in-Ok-Idle.ensures.tries in
    grind (arith, (idle_still c.self.inside.term c.act_now.new.term act), (acted_stamped (shown c.self.inside) c.act_now.new.term Idle c.self.invariant act))

pub invariant_of-self-in-Ok-Locked : goal.invariant_of-self-in-Ok-Locked
invariant_of-self-in-Ok-Locked c =
    let act : act_of c.self.inside.term ≡ Ok (c.act_now.new.term, Locked) =
    subst (λ a. act_of c.self.inside.term ≡ Ok (c.act_now.new.term, a)) c.in-Ok-Locked.field-0-is c.in-Ok-Locked.ensures.tries in
    grind (arith, (locked_still c.self.inside.term c.act_now.new.term act), (acted_stamped (shown c.self.inside) c.act_now.new.term Locked c.self.invariant act))

pub invariant_of-self-in-Ok-Done : goal.invariant_of-self-in-Ok-Done
invariant_of-self-in-Ok-Done c =
    let act : act_of c.self.inside.term ≡ Ok (c.act_now.new.term, Done c.in-Ok-Done.composed) =
    subst (λ a. act_of c.self.inside.term ≡ Ok (c.act_now.new.term, a)) c.in-Ok-Done.field-0-is c.in-Ok-Done.ensures.tries in
    let fit : AllFit c.in-Ok-Done.composed = subst (λ a. AllFit (composed_in a)) c.in-Ok-Done.field-0-is c.in-Ok-Done.ensures.fit in
    let counted = settled_counted (shown c.self.inside) c.act_now.new.term (Done c.in-Ok-Done.composed) c.self.invariant act tt in
    let stamped = acted_stamped (shown c.self.inside) c.act_now.new.term (Done c.in-Ok-Done.composed) c.self.invariant act in
    let e : PlainTermEndpoint = record (shown c.self.inside) { term = c.act_now.new.term; refusals = c.reserve.new.self.items; kept = c.note.new.self } in
    subst (λ (d : PlainDuplex HFrame Tmesg TermStop). IsSound (with_duplex e d)) (sym c.leave_over.ensures) (grind (arith, fit, c.into_vec.ensures, counted, stamped))

pub overflow_sub-number : goal.overflow_sub-number
overflow_sub-number c =
    let act : act_of c.self.inside.term ≡ Ok (c.act_now.new.term, Refused c.in-Ok-Refused.why) =
    subst (λ a. act_of c.self.inside.term ≡ Ok (c.act_now.new.term, a)) c.in-Ok-Refused.field-0-is c.in-Ok-Refused.ensures.tries in
    omega (arith, c.held.ensures, settled_counted (shown c.self.inside) c.act_now.new.term (Refused c.in-Ok-Refused.why) c.self.invariant act tt)

pub invariant_of-self-in-Ok-Refused : goal.invariant_of-self-in-Ok-Refused
invariant_of-self-in-Ok-Refused c =
    let act : act_of c.self.inside.term ≡ Ok (c.act_now.new.term, Refused c.in-Ok-Refused.why) =
    subst (λ a. act_of c.self.inside.term ≡ Ok (c.act_now.new.term, a)) c.in-Ok-Refused.field-0-is c.in-Ok-Refused.ensures.tries in
    let counted = settled_counted (shown c.self.inside) c.act_now.new.term (Refused c.in-Ok-Refused.why) c.self.invariant act tt in
    let stamped = acted_stamped (shown c.self.inside) c.act_now.new.term (Refused c.in-Ok-Refused.why) c.self.invariant act in
    grind (arith, counted, stamped)

pub returns-in-Ok-Idle : goal.returns-in-Ok-Idle
returns-in-Ok-Idle c =
    let e : PlainTermEndpoint = shown c.self.inside in
    let g : PlainTermEndpoint = record e { term = c.act_now.new.term; refusals = c.reserve.new.self.items } in
    let act : act_of c.self.inside.term ≡ Ok (c.act_now.new.term, Idle) = subst (λ a. act_of c.self.inside.term ≡ Ok (c.act_now.new.term, a)) c.in-Ok-Idle.field-0-is c.in-Ok-Idle.ensures.tries in
    subst (λ (x : PlainTermEndpoint). (act_of x.term ≡ Ok (x.term, Idle)) × (g ≡ x)) c.self.view_is
    (grind (arith, (idle_still e.term c.act_now.new.term act), c.reserve.ensures.items))

pub returns-in-Ok-Locked : goal.returns-in-Ok-Locked
returns-in-Ok-Locked c =
    let e : PlainTermEndpoint = shown c.self.inside in
    let g : PlainTermEndpoint = record e { term = c.act_now.new.term; refusals = c.reserve.new.self.items } in
    let act : act_of c.self.inside.term ≡ Ok (c.act_now.new.term, Locked) =
    subst (λ a. act_of c.self.inside.term ≡ Ok (c.act_now.new.term, a)) c.in-Ok-Locked.field-0-is c.in-Ok-Locked.ensures.tries in
    subst (λ (x : PlainTermEndpoint). (act_of x.term ≡ Ok (x.term, Locked)) × (g ≡ x)) c.self.view_is
    (grind (arith, (locked_still e.term c.act_now.new.term act), c.reserve.ensures.items))

pub returns-in-Ok-Done : goal.returns-in-Ok-Done
returns-in-Ok-Done c =
    let e : PlainTermEndpoint = shown c.self.inside in
    let u = c.act_now.new.term in
    let act : act_of c.self.inside.term ≡ Ok (u, Done c.in-Ok-Done.composed) = subst (λ a. act_of c.self.inside.term ≡ Ok (u, a)) c.in-Ok-Done.field-0-is c.in-Ok-Done.ensures.tries in
    let g : PlainTermEndpoint = record e { term = u; unwritten = c.into_vec.result.items; refusals = c.reserve.new.self.items; kept = c.note.new.self } in
    subst (λ (d : PlainDuplex HFrame Tmesg TermStop). Decides c.args.self.now (Ok decision.Acted) (with_duplex g d)) (sym c.leave_over.ensures)
    (subst (λ (x : PlainTermEndpoint). Decides x (Ok decision.Acted) g) c.self.view_is
    (let fit : FitMessages c.in-Ok-Done.composed = subst (λ a. FitMessages (composed_in a)) c.in-Ok-Done.field-0-is c.in-Ok-Done.ensures.known in
    let first : ActsFirst e g = acted_first e g u (Done c.in-Ok-Done.composed) c.self.invariant act tt fit
    (grind (arith, c.into_vec.ensures, c.reserve.ensures.items, c.note.ensures, c.oldest_noted-touch.ensures, append-nil)) in
    (first, c.in-Ok-Done.composed, acted_is e u first.term (Done c.in-Ok-Done.composed) first.acted act first.acts)))

pub returns-in-Ok-Refused : goal.returns-in-Ok-Refused
returns-in-Ok-Refused c =
    let e : PlainTermEndpoint = shown c.self.inside in
    let u = c.act_now.new.term in
    let why = c.in-Ok-Refused.why in
    let act : act_of c.self.inside.term ≡ Ok (u, Refused why) = subst (λ a. act_of c.self.inside.term ≡ Ok (u, a)) c.in-Ok-Refused.field-0-is c.in-Ok-Refused.ensures.tries in
    let g : PlainTermEndpoint = record e { term = u; refusals = c.push_back_reserved.new.self.items } in
    let none : c.self.inside.duplex.unwritten ≡ [] = ap (λ (x : PlainTermEndpoint). x.unwritten) c.self.view_is ∙ c.requires in
    let number : c.self.inside.events - c.held.result ≡ oldest e = ap (λ n. c.self.inside.events - n) c.held.ensures ∙ refused_number e u (Refused why) act tt in
    subst (λ (x : PlainTermEndpoint). Decides x (Ok (decision.Refused why)) g) c.self.view_is
    (let first : ActsFirst e g = acted_first e g u (Refused why) c.self.invariant act tt (All-nil (FitsT 2))
    (grind (arith, none, number, c.push_back_reserved.ensures.items, c.reserve.ensures.items)) in
    (first, acted_is e u first.term (Refused why) first.acted act first.acts))
