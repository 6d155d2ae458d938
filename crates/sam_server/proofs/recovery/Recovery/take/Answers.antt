use Rattle.std.proofs.Common.{Err, subst}
use Rattle.sam_server.specs.Records.{plain}
use Rattle.sam_server.specs.Recovering.{Retakes}
use Rattle.sam_server.specs.Servers.{Server}
use Rattle.sam_server.proofs.Recovering.{retakes_not}
use Rattle.sam_server.proofs.recovery.Recovery.take.Goals as goal

pub returns-in-Err : goal.returns-in-Err
returns-in-Err c =
    subst (λ (s : Server). Retakes s c.args.body.now (Err c.in-Err.why)) c.self.view_is
    (retakes_not c.self.inside.turn c.give_all.new.self c.retake.new.self (plain c.in-Some.record) c.args.body.now c.in-Err.why
    c.give_all.ensures c.in-Some.ensures c.in-Err.ensures)
