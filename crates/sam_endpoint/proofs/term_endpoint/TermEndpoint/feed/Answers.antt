use Rattle.sam_endpoint.proofs.Common.{common_steps, rules, ◌≡◌, subst, sym, Err, arith, PlainTermEndpoint, FeedsIdle}
use Rattle.sam_endpoint.specs.TermEndpoints.{Feeds}
use Rattle.sam_endpoint.proofs.TermEndpointCalls.{call_brought, call_failed, fed}
use Rattle.sam_endpoint.proofs.term_endpoint.TermEndpoint.feed.Goals as goal

pub returns-in_err-resume : goal.returns-in_err-resume
returns-in_err-resume c =
    let g : PlainTermEndpoint = c.resume.new.self in
    let why = c.in_err-resume.field-0.0 in
    let same : c.from_residual.result ≡ Err why = search rules in
    subst (λ r. Feeds c.args.self.now c.args.piece.now r g) (sym same) (call_failed c.args.self.now g why (λ m. FeedsIdle m c.args.piece.now (Err why) g) c.in_err-resume.ensures)

pub returns-in_err-take_in : goal.returns-in_err-take_in
returns-in_err-take_in c = grind (arith, call_brought)

pub returns : goal.returns
returns c = grind (arith, common_steps, call_brought, fed)
