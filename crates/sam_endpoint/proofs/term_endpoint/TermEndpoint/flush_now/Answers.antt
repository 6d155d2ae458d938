use Rattle.sam_endpoint.proofs.Common.{rules, ◌≡◌, subst, sym, Err, arith, PlainTermEndpoint, FlushesIdle, Flushes}
use Rattle.sam_endpoint.proofs.TermEndpointCalls.{call_brought, call_failed, flush_not}
use Rattle.sam_endpoint.proofs.term_endpoint.TermEndpoint.flush_now.Goals as goal

pub returns-in_err-resume : goal.returns-in_err-resume
returns-in_err-resume c =
    let g : PlainTermEndpoint = c.resume.new.self in
    let why = c.in_err-resume.field-0.0 in
    grind (arith, (call_failed c.args.self.now g why (λ m. FlushesIdle m (Err why) g) c.in_err-resume.ensures))

pub returns-in_err-compose_unsent : goal.returns-in_err-compose_unsent
returns-in_err-compose_unsent c =
    let m : PlainTermEndpoint = c.resume.new.self in
    let k : PlainTermEndpoint = c.compose_unsent.new.self in
    let why = c.in_err-compose_unsent.field-0.0 in
    let same : c.from_residual-in_err-compose_unsent.result ≡ Err why = search rules in
    subst (λ r. Flushes c.args.self.now r k) (sym same)
    (call_brought c.args.self.now m k (Err why) (λ x. FlushesIdle x (Err why) k) c.in_ok-resume.ensures (flush_not m k why c.in_err-compose_unsent.ensures))

pub returns : goal.returns
returns c = grind (arith, call_brought)
