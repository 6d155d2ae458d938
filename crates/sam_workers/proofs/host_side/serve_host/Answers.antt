use Rattle.sam_workers.proofs.Common.{◌∙◌, ℕ, ap, refl, subst, IsEnded, LineView, PlainHost}
use Rattle.sam_endpoint.specs.HostEndpoints.{PlainHostEndpoint}
use Rattle.sam_ends.proofs.GateLaws.{let_on_to}
use Rattle.sam_workers.proofs.HostCounts.{let_on_new}
use Rattle.sam_workers.proofs.HostWhole.{told_from, gate_refuses}
use Rattle.sam_workers.proofs.host_side.serve_host.Goals as goal

pub returns-clause-told : goal.returns-clause-told
returns-clause-told g c =
    let dropped = c.drop_after.ensures.taken in
    let one = ap (λ (x : LineView). x.senders) (c.drop_after.ensures.line ∙ c.run-passed.ensures.line) ∙ c.requires.one in
    told_from (g.G.Gate.may_refuse c.args.gate.now 2) _ _ c.with_host.result c.args.task.host c.run-passed.new.self.end c.args.task.post c.run-passed.new.self.post
    c.run-passed.new.take.taken dropped.0 _ c.run-passed.result.1 c.with_host.ensures refl c.requires.post c.requires.host c.requires.files c.run-passed.ensures.serves
    c.into_host.ensures c.close.ensures.closed (c.drop_after.ensures.line ∙ c.run-passed.ensures.line) dropped.1 dropped.2
    (subst (λ (n : ℕ). IsEnded n c.drop_after.new.take.taken) one c.drop_after.ensures.ended)

pub returns-clause-way : goal.returns-clause-way
returns-clause-way g c =
    gate_refuses (g.G.Gate.may_refuse c.args.gate.now 2) c.with_host.result c.run-passed.new.self.end c.args.task.post c.run-passed.new.self.post c.run-passed.new.take.taken
    c.run-passed.result.1 c.run-passed.ensures.serves

pub returns-clause-let_on : goal.returns-clause-let_on
returns-clause-let_on g c =
    let_on_to (g.G.Gate.must_refuse c.args.gate.now 2) 0 _ _
    (let_on_new (g.G.Gate.must_refuse c.args.gate.now 2) _ _ _ (ap (λ (x : PlainHostEndpoint). x.host) c.with_host.ensures ∙ c.requires.host) c.run-passed.ensures.let_on)
    (ap (λ (x : PlainHost). x.taken) c.into_host.ensures)
