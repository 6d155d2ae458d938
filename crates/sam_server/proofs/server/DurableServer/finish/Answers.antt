use Rattle.std.proofs.Common.{Err, refl, subst}
use Rattle.sam_server.specs.DurableServers.{Finishing, PlainDurableServer, gone_to}
use Rattle.sam_server.specs.Turns.{BreaksOff, PlainTurn}
use Rattle.sam_server.specs.contracts.server.DurableServer.{the_view}
use Rattle.sam_server.specs.declared.fault.GoOnFault.TheVariants as go_on
use Rattle.sam_server.specs.declared.server.Stage.TheVariants.{Stopped}
use Rattle.sam_server.specs.declared.turn.TurnFault.{TurnFault}
use Rattle.sam_server.specs.declared.turn.TurnFault.TheVariants as fault
use Rattle.sam_server.proofs.server.DurableServer.finish.Goals as goal

pub returns-in-Err-Stopped : goal.returns-in-Err-Stopped
returns-in-Err-Stopped c =
    let d = the_view c.self.inside in
    let t : PlainTurn = c.self.inside.turn in
    let u : PlainTurn = c.finish.new.self in
    let why = c.in-Err-Stopped.why in
    let nowhere : BreaksOff t (fault.Stopped why) u =
    subst (λ (w : TurnFault). BreaksOff t w u) c.in-Err-Stopped.field-0-is c.in-Err-Stopped.ensures in
    subst (λ (x : PlainDurableServer). Finishing x (Err (go_on.Stopped why)) (gone_to d u (Stopped why) d.owed)) c.self.view_is
    (nowhere, refl)
