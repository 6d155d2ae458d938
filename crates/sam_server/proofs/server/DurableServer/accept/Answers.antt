use Rattle.std.proofs.Common.{◌≡◌, subst, sym}
use Rattle.sam_server.specs.DurableServers.{RefusesHello, PlainDurableServer, TakesRecord}
use Rattle.sam_server.specs.Records.{Called}
use Rattle.sam_server.specs.contracts.server.DurableServer.{the_view}
use Rattle.sam_server.specs.declared.server.Stage.TheVariants.{Settled}
use Rattle.sam_server.proofs.DurableServers.{accept_takes}
use Rattle.sam_server.proofs.server.DurableServer.accept.Goals as goal

pub returns : goal.returns
returns c =
    let d = the_view c.self.inside in
    let settled : d.stage ≡ Settled = subst (λ (x : PlainDurableServer). x.stage ≡ Settled) (sym c.self.view_is) c.in_ok-body.ensures.0 in
    subst (λ (x : PlainDurableServer). TakesRecord x (Called c.args.hello) (RefusesHello x c.args.hello) c.go_on_now.result c.go_on_now.new.self)
    c.self.view_is
    (accept_takes d c.go_on_now.new.self c.answer.new.self c.args.hello c.in_ok-body.body.items (RefusesHello d c.args.hello) c.go_on_now.result
    settled c.in_ok-body.ensures.1 c.answer.ensures.others c.in_default.ensures.link c.go_on_now.ensures)
