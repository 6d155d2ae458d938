use Rattle.sam_endpoint.proofs.Common.{rules, ◌≡◌, subst, sym, Ok, Err, arith, PlainTermEndpoint, Receives, ReceivesAll, ReceivesFirst}
use Rattle.sam_endpoint.proofs.TermEndpointCalls.{receiving_none, receiving_written, receiving_more, writing_failed}
use Rattle.sam_endpoint.proofs.term_endpoint.TermEndpoint.receive_all.Goals as goal

pub loop-self-init : goal.loop-self-init
loop-self-init c = grind (arith, receiving_written, receiving_none)

pub loop-self-preserved : goal.loop-self-preserved
loop-self-preserved c = grind (arith, receiving_written, receiving_more)

pub returns-in_err-write_composed-2 : goal.returns-in_err-write_composed-2
returns-in_err-write_composed-2 c =
    let e : PlainTermEndpoint = c.args.self.now in
    let i = c.loop-self.invariant in
    let why = c.in_err-write_composed-2.field-0.0 in
    let r : ReceivesFirst c.loop-self.self c.receive_first.new.self =
    subst (λ b. Receives c.loop-self.self (Ok b) c.receive_first.new.self) c.if-branch.true c.in_ok-receive_first.ensures in
    let same : c.from_residual-in_err-write_composed-2.result ≡ Err why = search rules in
    subst (λ x. ReceivesAll e x c.write_composed-in-loop-self.new.self) (sym same)
    (writing_failed e c.receive_first.new.self c.write_composed-in-loop-self.new.self why
    (receiving_more e c.loop-self.self c.receive_first.new.self i.so_far i.idle r) c.in_err-write_composed-2.ensures)
