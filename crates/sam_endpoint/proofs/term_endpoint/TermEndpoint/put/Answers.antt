use Rattle.sam_endpoint.proofs.Common.{Err, arith, PlainTermEndpoint, PutsIdle}
use Rattle.sam_endpoint.proofs.TermEndpointCalls.{call_brought, call_failed}
use Rattle.sam_endpoint.proofs.term_endpoint.TermEndpoint.put.Goals as goal

pub returns-in_err-resume : goal.returns-in_err-resume
returns-in_err-resume c =
    let g : PlainTermEndpoint = c.resume.new.self in
    let why = c.in_err-resume.field-0.0 in
    grind (arith, (call_failed c.args.self.now g why (λ m. PutsIdle m c.args.event (Err why) g) c.in_err-resume.ensures))

pub returns-in_err-hold : goal.returns-in_err-hold
returns-in_err-hold c = grind (arith, call_brought)

pub returns : goal.returns
returns c = grind (arith, call_brought)
