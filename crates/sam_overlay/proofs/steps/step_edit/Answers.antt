use Rattle.std.proofs.Common.{subst, Ok}
use Rattle.sam_endpoint.specs.TermStepping.{Steps}
use Rattle.sam_overlay.proofs.StepLaws.{edit_brought}
use Rattle.sam_overlay.proofs.steps.step_edit.Goals as goal

pub returns-clause-brought : goal.returns-clause-brought
returns-clause-brought c =
    let e = c.args.end.now in
    let steps : Steps e (Ok c.in_ok-step.step) c.step.new.self = subst (λ r. Steps e r c.step.new.self) c.in_ok-step.was c.step.ensures in
    edit_brought e c.step.new.self c.args.layers.now c.make_next.new.self c.args.tag c.args.limit c.in_ok-step.step c.requires.putting steps
    c.requires.over c.requires.command c.make_next.ensures.made c.make_next.ensures.groups c.make_next.ensures.layers
