use Rattle.std.proofs.Common.{◌≡◌, ◌∙◌, ap, subst, sym, ℕ, true, Some, Ok, slice_get, arith}
use Rattle.sam_term.specs.Sound.{IsSound}
use Rattle.sam_endpoint.specs.TermStepping.{Steps}
use Rattle.sam_overlay.specs.Effects.{plan_at, plan_of}
use Rattle.sam_overlay.specs.Overlays.{first_effect, is_received}
use Rattle.sam_overlay.proofs.StepLaws.{first_is, received_stepped}
use Rattle.sam_overlay.proofs.steps.step_over.Goals as goal

pub follow-requires : goal.follow-requires
follow-requires c l runs is same = c.in-Ok.ensures.kept l runs (c.at.ensures ∙ is) same

pub returns-clause-stepped : goal.returns-clause-stepped
returns-clause-stepped c =
    let e = c.args.end.now in
    let steps : Steps e (Ok c.in_ok-step.step) c.step.new.self = subst (λ r. Steps e r c.step.new.self) c.in_ok-step.was c.step.ensures in
    let received : is_received c.in_ok-step.step ≡ true = grind (arith, c.is_received.ensures, c.if-not-is_received.false) in
    let sound : IsSound e.term = grind (arith, c.facts.ensures, c.term.ensures) in
    let first : slice_get e.waiting 0 ≡ Some c.in-Some.frame.now = grind (arith, c.first_frame.ensures, c.in-Some.is) in
    let planned : (f : ℕ) → plan_at f c.of-plan.result ≡ plan_of (first_effect e.waiting f) =
    λ f. c.of-plan.ensures f ∙ sym (ap plan_of (first_is e.waiting c.in-Some.frame.now f first)) in
    received_stepped e c.step.new.self c.args.layers.now c.follow.new.self c.in_ok-step.step c.of-plan.result c.in-Ok.outcome steps received sound
    c.requires.over c.requires.command c.requires.requests planned (grind (arith, c.in-Ok.ensures, c.at.ensures)) (grind (arith, c.follow.ensures, c.at.ensures))
