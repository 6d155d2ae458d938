use Rattle.std.proofs.Common.{◌≡◌, rules, Ok, None, ap, subst, sym, ◌∙◌}
use Rattle.std.specs.Prelude.{option_map}
use Rattle.sam_endpoint.specs.HostEndpoints.{PlainHostEndpoint}
use Rattle.sam_server.specs.Servers.{next_effect}
use Rattle.sam_server.specs.Turns.{BreaksOff, PlainTurn, Stepped, hosted, plain_effect}
use Rattle.sam_server.specs.contracts.turn.Turn.{the_view}
use Rattle.sam_server.proofs.Turns.{step_broke, step_told}
use Rattle.sam_server.proofs.turn.Turn.step.Goals as goal

pub returns : goal.returns
returns c =
    let t = the_view c.self.inside in
    let effect = option_map plain_effect c.set.new.slot in
    let none : t.server.effect ≡ None = ap (option_map plain_effect) c.in-None.is in
    let is : effect ≡ next_effect t.server.host = ap (option_map plain_effect) c.set.ensures ∙ c.in-Ok.ensures in
    subst (λ (x : PlainTurn). Stepped x (Ok c.in_ok-did.did) (record t { server = record t.server { host = c.next_written.new.self; effect = effect } }))
    c.self.view_is
    (subst (λ (k : PlainHostEndpoint). Stepped t (Ok c.in_ok-did.did) (record t { server = record t.server { host = k; effect = effect } }))
    (sym c.next_written.ensures.rest)
    (step_told t c.step.result c.step.new.self c.in_ok-did.did effect none c.self.invariant.3 c.step.ensures (sym c.in_ok-did.ensures) is))

pub returns-in_err-did : goal.returns-in_err-did
returns-in_err-did c =
    let t = the_view c.self.inside in
    let k = c.step.new.self in
    let broke : BreaksOff t c.in_err-did.field-0.0 (hosted t k) =
    step_broke t c.step.result k c.in_err-did.field-0.0 (ap (option_map plain_effect) c.in-None.is) c.self.invariant.3 c.step.ensures
    (sym c.told_of_step.ensures ∙ c.in_err-did.was) in
    let stepped : Stepped t c.from_residual.result (hosted t k) = search (rules, broke) in
    subst (λ (x : PlainTurn). Stepped x c.from_residual.result (hosted t k)) c.self.view_is stepped
