-- A session whose terminal is a client.
use Rattle.std.specs.Prelude.{◌≡◌, ℕ, List, ◌++◌, flat_map, Bool}
use Rattle.sam_host.specs.Host.{new_host}
use Rattle.sam_host.specs.Laws.{AreGiven}
use Rattle.sam_link.specs.Calls.{bytes_of, handed, put}
use Rattle.sam_link.specs.Sessions.{IsId, Leads, Session, StartsWith, Step, new_session}
use Rattle.sam_link.specs.declared.hello.Id.{Id}
use Rattle.sam_line.specs.Sessions.{LineLeads, LineSession, LineStep, new_line_session}
use Rattle.sam_endpoint.specs.HostEndpoints.{PlainHostEndpoint}
use Rattle.sam_endpoint.specs.HostRuns.{begun_with, Call as HostCall, Runs as HostRuns, asides_by, came_in as came_up, went_out as went_down}
use Rattle.sam_endpoint.specs.TermEndpoints.{new_term_endpoint}
use Rattle.sam_endpoint.specs.TermRuns.{put_in, Call as EndCall, Runs as EndRuns, came_in, went_out}
use Rattle.sam_joined.specs.Joined.{AreAsIfLocal, AreCarried, AreOneRun, GoOn}
use Rattle.sam_client.specs.Clients.{Act, DoesAll, new_client}
use Rattle.sam_client.specs.declared.client.Client.{Client}
use Rattle.sam_attached.specs.Runs.{AreGoing, line_calls}

-- Acts of a client that is new at this time, which don't stop its end; and any calls of a line and of the host's end of the link, over any
-- connections, of which those of the line are the client's
pub record IsSession (id : Id) (take_over : Bool) (now : ℕ) (acts : List Act) (n : Client) (s : LineSession) : Type 0 where
  pub does : DoesAll (new_client id take_over now) acts n
  pub going : AreGoing acts
  pub steps : List LineStep
  pub leads : LineLeads (new_line_session id take_over now) steps s
  pub calls : s.line_calls ≡ flat_map line_calls acts

-- What the client's end composed and what it took in, beside a session of two links
pub record IsLinked (id : Id) (n : Client) (s : LineSession) : Type 0 where
  pub end_calls : List EndCall
  pub runs : EndRuns new_term_endpoint end_calls n.ordered.overlay.end
  pub steps : List Step
  pub session : Session
  pub leads : Leads (new_session id) steps session
  pub host_calls : session.host_calls ≡ s.host_calls
  pub puts : StartsWith (flat_map went_out end_calls ++ n.ordered.overlay.end.pending_bytes) (bytes_of (put session.terminal_calls))
  pub takes : StartsWith (bytes_of (handed session.terminal_calls)) (flat_map came_in end_calls)

-- the terminal's half of what links suppose of programs
abbrev pub ClientsAreLinked : Type 0
ClientsAreLinked =
    (id : Id) (take_over : Bool) (now : ℕ) (acts : List Act) (n : Client) (s : LineSession) → IsSession id take_over now acts n s
    → IsLinked id n s

-- And where the host's program keeps its half, client and host are where one run of a world leaves them, neither stops but for a full
-- count, and what they show is what the editor without a network shows
abbrev pub ClientsAreOneRun : Type 0
ClientsAreOneRun =
    (given : List (List ℕ × List ℕ)) (id : Id) (take_over : Bool) (now : ℕ) (acts : List Act) (n : Client) (s : LineSession)
    (host_calls : List HostCall) (e : PlainHostEndpoint)
    → IsId id → IsSession id take_over now acts n s → AreGiven given → HostRuns (begun_with (new_host given)) host_calls e
    → StartsWith (bytes_of (handed s.host_calls)) (flat_map came_up host_calls)
    → StartsWith (flat_map went_down host_calls ++ e.pending_bytes) (bytes_of (put s.host_calls))
    → (end_calls : List EndCall) × (up : List ℕ) × (down : List ℕ)
    × AreCarried given (flat_map asides_by host_calls) (flat_map put_in end_calls) up down e n.ordered.overlay.end
    × (run : AreOneRun given (flat_map asides_by host_calls) (flat_map put_in end_calls) up down e n.ordered.overlay.end)
    × GoOn e n.ordered.overlay.end
    × AreAsIfLocal run
