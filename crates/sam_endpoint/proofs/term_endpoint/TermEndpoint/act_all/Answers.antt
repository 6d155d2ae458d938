use Rattle.sam_endpoint.proofs.Common.{rules, ◌≡◌, subst, sym, Ok, Err, arith, PlainTermEndpoint, ActsAll, ActsFirst}
use Rattle.sam_endpoint.specs.TermSteps.{Acts}
use Rattle.sam_endpoint.proofs.TermEndpointCalls.{acting_more, acting_none, acting_unwritten, acting_written}
use Rattle.sam_endpoint.proofs.term_endpoint.TermEndpoint.act_all.Goals as goal

pub loop-self-init : goal.loop-self-init
loop-self-init c = acting_none c.args.self.now c.requires.idle c.requires.running

pub loop-self-preserved : goal.loop-self-preserved
loop-self-preserved c = grind (arith, acting_written, acting_more)

pub returns-in_err-write_composed : goal.returns-in_err-write_composed
returns-in_err-write_composed c =
    let e : PlainTermEndpoint = c.args.self.now in
    let why = c.in_err-write_composed.field-0.0 in
    let f : ActsFirst c.loop-self.self c.act_first.new.self = subst (λ b. Acts c.loop-self.self (Ok b) c.act_first.new.self) c.if-branch.true c.in_ok-act_first.ensures in
    let same : c.from_residual-in_err-write_composed.result ≡ Err why = search rules in
    subst (λ x. ActsAll e x c.write_composed.new.self) (sym same)
    (acting_unwritten e c.act_first.new.self c.write_composed.new.self why (acting_more e c.loop-self.self c.act_first.new.self c.loop-self.invariant f) c.in_err-write_composed.ensures)
