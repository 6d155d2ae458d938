use Rattle.std.proofs.Common.{◌≡◌, subst, sym}
use Rattle.sam_server.specs.DurableServers.{PlainDurableServer, RefusesMark, TakesRecord}
use Rattle.sam_server.specs.Records.{Marked}
use Rattle.sam_server.specs.contracts.server.DurableServer.{the_view}
use Rattle.sam_server.specs.declared.server.Stage.TheVariants.{Settled}
use Rattle.sam_server.proofs.DurableServers.{marked_takes}
use Rattle.sam_server.proofs.server.DurableServer.mark_dirty.Goals as goal

pub returns : goal.returns
returns c =
    let d = the_view c.self.inside in
    let settled : d.stage ≡ Settled = subst (λ (x : PlainDurableServer). x.stage ≡ Settled) (sym c.self.view_is) c.in_ok-body.ensures.0 in
    subst (λ (x : PlainDurableServer). TakesRecord x (Marked c.args.tag) (RefusesMark x c.args.tag) c.go_on_now.result c.go_on_now.new.self)
    c.self.view_is
    (marked_takes d c.go_on_now.new.self c.mark_dirty.new.self c.args.tag c.in_ok-body.body.items
    (RefusesMark d c.args.tag) c.go_on_now.result settled c.self.invariant c.in_ok-body.ensures.1 c.mark_dirty.ensures.others
    c.in-Ok.ensures.host c.go_on_now.ensures)
