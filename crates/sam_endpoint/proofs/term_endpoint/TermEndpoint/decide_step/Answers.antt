use Rattle.sam_endpoint.proofs.Common.{Ok, subst, PlainTermEndpoint}
use Rattle.sam_endpoint.specs.TermSteps.{Decides}
use Rattle.sam_endpoint.specs.declared.step.Decision.TheVariants as decision
use Rattle.sam_endpoint.proofs.TermEndpointStepping.{refused_told}
use Rattle.sam_endpoint.proofs.term_endpoint.TermEndpoint.decide_step.Goals as goal

pub returns-in-Ok-Refused : goal.returns-in-Ok-Refused
returns-in-Ok-Refused c =
    let e : PlainTermEndpoint = c.args.self.now in
    let g : PlainTermEndpoint = c.decide_first.new.self in
    let decides : Decides e (Ok (decision.Refused c.in-Ok-Refused.why)) g = subst (λ a. Decides e (Ok a) g) c.in-Ok-Refused.field-0-is c.in-Ok-Refused.ensures in
    refused_told e g c.decided-in-Ok-Refused.result c.in-Ok-Refused.why decides c.decided-in-Ok-Refused.ensures
