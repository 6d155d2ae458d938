use Rattle.sam_endpoint.proofs.Common.{rules, ◌≡◌, sym, subst, Err, arith, GoesOn, Answer}
use Rattle.sam_endpoint.proofs.HostEndpointGoing.{fewer, goes_further, not_answered, not_written}
use Rattle.sam_endpoint.proofs.host_endpoint.HostEndpoint.go_on.Goals as goal

pub loop-self-preserved : goal.loop-self-preserved
loop-self-preserved c = grind (arith, goes_further)

pub loop-self-smaller : goal.loop-self-smaller
loop-self-smaller c = grind (arith, fewer)

pub returns-in_err-answer_next : goal.returns-in_err-answer_next
returns-in_err-answer_next c = grind (arith, not_answered)

pub returns-in_err-write_answer-2 : goal.returns-in_err-write_answer-2
returns-in_err-write_answer-2 c =
    let fault : c.from_residual-in_err-write_answer-2.result ≡ Err c.in_err-write_answer-2.field-0.0 = search rules in
    subst (λ (x : Answer). GoesOn c.args.self.now x c.write_answer-in-loop-self.new.self) (sym fault)
    (not_written c.args.self.now c.loop-self.self c.answer_next.new.self c.write_answer-in-loop-self.new.self c.in_err-write_answer-2.field-0.0 c.loop-self.invariant
    c.in_ok-answer_next.ensures c.in_err-write_answer-2.ensures)
