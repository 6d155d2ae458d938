-- A client, and a program whose server begins with the texts of another: another terminal has taken a session over.
use Rattle.std.specs.Prelude.{ℕ, List, Bool}
use Rattle.sam_link.specs.declared.hello.Id.{Id}
use Rattle.sam_text.specs.Files.{PlainFile}
use Rattle.sam_server.specs.DurableServers.{PlainDurableServer, new_durable_server}
use Rattle.sam_server.specs.Heirs.{AdoptsAll}
use Rattle.sam_served.specs.Heirs.{program_with}
use Rattle.sam_end_to_end.specs.Sessions.{Event, Leads, Session, new_session}

abbrev pub session_with : Id → Bool → ℕ → List PlainFile → PlainDurableServer → Session
session_with id take_over now files e = record (new_session id take_over now) { program = program_with id files e }

-- What begins with the server that these files joined, as `heir` hands it out, is such a session from its beginning on: so all laws hold
-- of it, whatever happens
abbrev pub HeirsAreSessions : Type 0
HeirsAreSessions =
    (id : Id) (take_over : Bool) (now : ℕ) (files : List PlainFile) (e : PlainDurableServer) (events : List Event) (s : Session)
    → AdoptsAll (new_durable_server id) files e → Leads id (session_with id take_over now files e) events s
    → (all : List Event) × Leads id (new_session id take_over now) all s
