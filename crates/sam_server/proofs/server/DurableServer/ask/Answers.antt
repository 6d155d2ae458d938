use Rattle.std.proofs.Common.{◌≡◌, ap, refl, subst, sym}
use Rattle.sam_server.specs.DurableServers.{PlainDurableServer, RefusesAsk, TakesRecord}
use Rattle.sam_server.specs.Records.{Asked}
use Rattle.sam_server.specs.Turns.{PlainTurn}
use Rattle.sam_server.specs.contracts.server.DurableServer.{the_view}
use Rattle.sam_server.specs.declared.server.Stage.TheVariants.{Settled}
use Rattle.sam_server.proofs.DurableServers.{single_takes}
use Rattle.sam_server.proofs.server.DurableServer.ask.Goals as goal

pub returns : goal.returns
returns c =
    let d = the_view c.self.inside in
    let settled : d.stage ≡ Settled = subst (λ (x : PlainDurableServer). x.stage ≡ Settled) (sym c.self.view_is) c.in_ok-body.ensures.0 in
    subst (λ (x : PlainDurableServer). TakesRecord x Asked (RefusesAsk x) c.go_on_now.result c.go_on_now.new.self)
    c.self.view_is
    (single_takes d c.go_on_now.new.self c.ask.new.self Asked c.in_ok-body.body.items
    (RefusesAsk d) c.go_on_now.result settled refl c.in_ok-body.ensures.1
    (c.ask.new.self.server.link, c.in-Ok.ensures.link, ap (λ (x : PlainTurn). x.server) c.ask.ensures.others) c.go_on_now.ensures)
