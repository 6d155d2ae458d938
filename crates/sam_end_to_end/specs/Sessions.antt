-- A client, and at the other end a program with a durable server. Connections between them break, and the program may be killed at any
-- moment.
use Rattle.std.specs.Prelude.{◌≡◌, ℕ, List, [], ◌∷◌, ◌++◌, flat_map, Bool}
use Rattle.sam_link.specs.Calls.{Call}
use Rattle.sam_link.specs.Sessions.{IsId}
use Rattle.sam_link.specs.declared.hello.Id.{Id}
use Rattle.sam_line.specs.Calls.{LineCall}
use Rattle.sam_line.specs.Sessions.{WasBrought, outs}
use Rattle.sam_endpoint.specs.HostEndpoints.{PlainHostEndpoint}
use Rattle.sam_endpoint.specs.HostRuns.{Call as HostCall, asides_by}
use Rattle.sam_endpoint.specs.TermEndpoints.{PlainTermEndpoint}
use Rattle.sam_endpoint.specs.TermRuns.{put_in}
use Rattle.sam_joined.specs.Joined.{AreAsIfLocal, AreCarried, AreOneRun, GoOn}
use Rattle.sam_client.specs.Clients.{Act as ClientAct, Does, new_client}
use Rattle.sam_client.specs.declared.client.Client.{Client}
use Rattle.sam_attached.specs.Runs.{AreCalls, IsGoing, line_calls}
use Rattle.sam_server.specs.declared.server.Stage.TheVariants.{Settled}
use Rattle.sam_served.specs.Programs.{Act as ProgramAct, LeadsProgram, Program, new_program}
use Rattle.sam_served.specs.Programs.Act.{Break, ByTerminal, Crash, Durable, GoOn as GoesOn, NextRecord, Take, TakeOut}
use Rattle.sam_served.specs.Serving.{asides_by_calls, asides_by_records}

-- ## A session

-- the client with all its acts so far, and the program
pub record Session : Type 0 where
  pub client : Client
  pub acts : List ClientAct
  pub program : Program

abbrev pub new_session : Id → Bool → ℕ → Session
new_session id take_over now = record { client = new_client id take_over now; acts = []; program = new_program id }

-- what happens; that the program is killed is an act of it, too
pub data Event : Type 0 where
  ByClient : ClientAct → Event
  ByProgram : ProgramAct → Event

-- ## What connections bring

abbrev pub calls_in : Session → List LineCall
calls_in s = flat_map line_calls s.acts

-- what these calls of a line are given, one after another, was brought
abbrev pub AreBrought : List LineCall → List Call → List LineCall → Type 0
AreBrought mine theirs [] = Unit {0}
AreBrought mine theirs (call ∷ calls) = WasBrought mine theirs call × AreBrought (mine ++ call ∷ []) theirs calls

-- the program, to which connections bring what the client's line took out
abbrev pub hearing : Session → Program
hearing s = record s.program { terminal_calls = outs (calls_in s) }

-- the act is one of the program's
abbrev pub IsOfProgram : ProgramAct → Type 0
IsOfProgram (ByTerminal call) = ⊥
IsOfProgram (Take taking) = Unit {0}
IsOfProgram (GoesOn answer) = Unit {0}
IsOfProgram (Break attempt) = Unit {0}
IsOfProgram (NextRecord body) = Unit {0}
IsOfProgram (Durable count) = Unit {0}
IsOfProgram (TakeOut attempt old answer new) = Unit {0}
IsOfProgram (Crash n) = Unit {0}

-- ## What happens

-- These events lead from one session to the next. No act stops the client's end. What the client's line is given was brought: it is what
-- the program's servers took out for that connection. What the program's server takes, the line took out for that connection. And of what
-- the program said is durable each crash leaves all
abbrev pub Leads : Id → Session → List Event → Session → Type 0
Leads id s [] z = z ≡ s
Leads id s (ByClient act ∷ events) z =
    (n : Client) × Does s.client act n × IsGoing act × AreBrought (calls_in s) s.program.outs (line_calls act)
    × Leads id (record s { client = n; acts = s.acts ++ act ∷ [] }) events z
Leads id s (ByProgram act ∷ events) z =
    (p : Program) × IsOfProgram act × LeadsProgram id (hearing s) (act ∷ []) p × Leads id (record s { program = p }) events z

-- ## The law

abbrev pub end_in : Session → PlainTermEndpoint
end_in s = s.client.ordered.overlay.end

-- The client's acts were calls of its end. With these, it and a host endpoint are where one run of a world leaves them, in which files
-- joined and were marked as the program's records say; neither stops but for a full count, and what the end shows is what the editor
-- without a network shows. Where nothing waits for memory, that endpoint is the server's
pub record IsOneRun (id : Id) (take_over : Bool) (now : ℕ) (s : Session) : Type 0 where
  pub calls : AreCalls (new_client id take_over now) s.acts s.client
  pub host : PlainHostEndpoint
  pub host_calls : List HostCall
  pub server : s.program.server.stage ≡ Settled → s.program.server.turn.server.host ≡ host
  pub asides : asides_by_calls host_calls ≡ asides_by_records s.program.taken
  pub up : List ℕ
  pub down : List ℕ
  pub carried : AreCarried [] (flat_map asides_by host_calls) (flat_map put_in calls.end_calls) up down host (end_in s)
  pub run : AreOneRun [] (flat_map asides_by host_calls) (flat_map put_in calls.end_calls) up down host (end_in s)
  pub goes_on : GoOn host (end_in s)
  pub as_if_local : AreAsIfLocal run

-- whatever happens
abbrev pub SessionsAreOneRun : Type 0
SessionsAreOneRun =
    (id : Id) (take_over : Bool) (now : ℕ) (events : List Event) (s : Session) → IsId id → Leads id (new_session id take_over now) events s
    → IsOneRun id take_over now s
