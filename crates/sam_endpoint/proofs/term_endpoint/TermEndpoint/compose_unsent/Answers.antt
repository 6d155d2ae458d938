use Rattle.sam_endpoint.proofs.TermEndpointStamps.{flush_counts}
use Rattle.sam_endpoint.proofs.TermEndpointHeld.{flush_held}
use Rattle.sam_endpoint.proofs.Common.{ap, subst, sym, Ok, arith, HFrame, Tmesg, TermStop, PlainTermEndpoint, shown, Composes}
use Rattle.sam_endpoint.specs.Duplexes.{PlainDuplex}
use Rattle.sam_endpoint.specs.TermSteps.{IsSound}
use Rattle.sam_endpoint.proofs.TermEndpointSteps.{with_duplex}
use Rattle.sam_endpoint.proofs.term_endpoint.TermEndpoint.compose_unsent.Goals as goal

pub invariant_of-self : goal.invariant_of-self
invariant_of-self c =
    let e : PlainTermEndpoint = record (shown c.self.inside) { term = c.flush_now.new.term } in
    subst (λ (d : PlainDuplex HFrame Tmesg TermStop). IsSound (with_duplex e d)) (sym c.leave_over.ensures) (grind (arith, flush_held, flush_counts))

pub returns-in-Ok : goal.returns-in-Ok
returns-in-Ok c =
    let e : PlainTermEndpoint = shown c.self.inside in
    let u = c.flush_now.new.term in
    let g : PlainTermEndpoint = record e { term = u; unwritten = c.into_vec.result.items } in
    subst (λ (d : PlainDuplex HFrame Tmesg TermStop). Composes c.args.self.now (Ok tt) (with_duplex (record e { term = u }) d)) (sym c.leave_over.ensures)
    (subst (λ (x : PlainTermEndpoint). Composes x (Ok tt) g) c.self.view_is (u, c.in-Ok.composed, c.in-Ok.ensures.tries, c.in-Ok.ensures.known, ap (λ ms. record e { term = u; unwritten = ms }) c.into_vec.ensures))
