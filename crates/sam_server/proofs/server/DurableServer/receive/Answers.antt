use Rattle.std.proofs.Common.{◌≡◌, Err, subst, sym}
use Rattle.sam_server.specs.DurableServers.{RefusesPiece, PlainDurableServer, TakesRecord}
use Rattle.sam_server.specs.Records.{Came}
use Rattle.sam_server.specs.contracts.server.DurableServer.{the_view}
use Rattle.sam_link.specs.declared.fault.FeedFault.{FeedFault}
use Rattle.sam_server.specs.declared.fault.CallFault.{CallFault}
use Rattle.sam_server.specs.declared.server.Stage.TheVariants.{Settled}
use Rattle.sam_server.proofs.DurableServers.{receive_takes, refuses_piece}
use Rattle.sam_server.proofs.server.DurableServer.receive.Goals as goal

pub returns : goal.returns
returns c =
    let d = the_view c.self.inside in
    let settled : d.stage ≡ Settled = subst (λ (x : PlainDurableServer). x.stage ≡ Settled) (sym c.self.view_is) c.in_ok-body.ensures.0 in
    subst (λ (x : PlainDurableServer). TakesRecord x (Came c.args.attempt c.args.piece.now) (RefusesPiece x c.args.attempt c.args.piece.now) c.go_on_now.result c.go_on_now.new.self)
    c.self.view_is
    (receive_takes d c.go_on_now.new.self c.feed.new.self c.args.attempt c.args.piece.now c.in_ok-body.body.items
    (RefusesPiece d c.args.attempt c.args.piece.now) c.go_on_now.result settled c.self.invariant c.in_ok-body.ensures.1 c.feed.ensures.others
    c.in-Ok.ensures.link c.go_on_now.ensures)

pub returns-in-Err : goal.returns-in-Err
returns-in-Err c =
    let d = the_view c.self.inside in
    let settled : d.stage ≡ Settled = subst (λ (x : PlainDurableServer). x.stage ≡ Settled) (sym c.self.view_is) c.in_ok-body.ensures.0 in
    let e : PlainDurableServer = record d { turn = c.feed.new.self } in
    subst (λ (x : PlainDurableServer). TakesRecord {A = Unit {0}} x (Came c.args.attempt c.args.piece.now) (RefusesPiece x c.args.attempt c.args.piece.now) (Err c.told_of_feed.result) e)
    c.self.view_is
    (subst (λ (r : CallFault FeedFault). TakesRecord {A = Unit {0}} d (Came c.args.attempt c.args.piece.now) (RefusesPiece d c.args.attempt c.args.piece.now) (Err r) e)
    (sym c.told_of_feed.ensures)
    (refuses_piece d c.feed.new.self c.args.attempt c.args.piece.now c.in-Err.why settled c.feed.ensures.others c.in-Err.ensures.link))
