use Rattle.std.proofs.Common.{◌≡◌, subst, sym}
use Rattle.sam_server.specs.DurableServers.{PlainDurableServer, RefusesEffect, TakesRecord}
use Rattle.sam_server.specs.Records.{Done}
use Rattle.sam_server.specs.contracts.server.DurableServer.{the_view}
use Rattle.sam_server.specs.declared.server.Stage.TheVariants.{Settled}
use Rattle.sam_server.proofs.DurableServers.{done_takes}
use Rattle.sam_server.proofs.server.DurableServer.effect_done.Goals as goal

pub returns-then-drop_effect : goal.returns-then-drop_effect
returns-then-drop_effect c =
    let d = the_view c.self.inside in
    let settled : d.stage ≡ Settled = subst (λ (x : PlainDurableServer). x.stage ≡ Settled) (sym c.self.view_is) c.in_ok-body.ensures.0 in
    subst (λ (x : PlainDurableServer). TakesRecord x (Done c.args.ending) (RefusesEffect x) c.go_on_now.result c.go_on_now.new.self)
    c.self.view_is
    (done_takes d c.go_on_now.new.self c.drop_effect.new.self c.args.ending c.drop_effect.result c.in_ok-body.body.items
    (RefusesEffect d) c.go_on_now.result settled c.self.invariant c.in_ok-body.ensures.1 c.if-drop_effect.true c.drop_effect.ensures
    c.go_on_now.ensures)
