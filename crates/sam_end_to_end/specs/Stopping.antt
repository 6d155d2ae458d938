-- What stops a client whose host is a durable server.
use Rattle.std.specs.Prelude.{◌≡◌, ℕ, List, Bool, Err}
use Rattle.sam_term.specs.declared.fault.TermFault.TheVariants.{CountFull}
use Rattle.sam_link.specs.Sessions.{IsId}
use Rattle.sam_link.specs.declared.hello.Id.{Id}
use Rattle.sam_endpoint.specs.declared.fault.EndpointFault.TheVariants.{Stopped}
use Rattle.sam_endpoint.specs.declared.fault.TermStop.{TermStop}
use Rattle.sam_endpoint.specs.declared.fault.TermStop.TheVariants.{Refused}
use Rattle.sam_client.specs.Clients.{Does}
use Rattle.sam_client.specs.Clients.Act.{Step}
use Rattle.sam_client.specs.declared.client.Client.{Client}
use Rattle.sam_end_to_end.specs.Sessions.{Event, Leads, Session, new_session}

-- whatever happened before, a step stops the client's end only where a count is full
abbrev pub ClientsStopForFullCounts : Type 0
ClientsStopForFullCounts =
    (id : Id) (take_over : Bool) (now : ℕ) (events : List Event) (s : Session) (n : Client) (why : TermStop)
    → IsId id → Leads id (new_session id take_over now) events s → Does s.client (Step (Err (Stopped why))) n → why ≡ Refused CountFull
