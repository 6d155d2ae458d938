use Rattle.std.proofs.Common.{ℕ, Result, Err, ap, ◌∙◌, subst}
use Rattle.sam_endpoint.specs.declared.fault.AddFault.{AddFault}
use Rattle.sam_server.specs.DurableServers.{RefusesFile, TakesRecord}
use Rattle.sam_server.specs.Records.{Joined}
use Rattle.sam_server.specs.declared.fault.CallFault.{CallFault}
use Rattle.sam_server.proofs.Heirs.{not_stopped}
use Rattle.sam_server.proofs.server.DurableServer.join.Goals as goal

pub unreachable-requires-in-Err-Stopped : goal.unreachable-requires-in-Err-Stopped
unreachable-requires-in-Err-Stopped c =
    let d = c.args.self.now in
    let e = c.add_file.new.self in
    let name = c.args.name.now in
    let text = c.args.text.now in
    not_stopped d e name text c.in-Err-Stopped.field-0-0 c.requires.settled c.requires.allowed
    (subst (λ (r : Result ℕ (CallFault AddFault)). TakesRecord d (Joined name text) (RefusesFile d name text) r e)
    (c.in-Err-Stopped.is ∙ ap Err c.in-Err-Stopped.field-0-is) c.add_file.ensures.takes)
