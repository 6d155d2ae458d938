-- What holds of a session whose host may crash.
use Rattle.std.specs.Prelude.{◌≡◌, ℕ, List, [], ◌++◌, flat_map, Result}
use Rattle.sam_link.specs.Calls.{Call, Does}
use Rattle.sam_link.specs.End.{End}
use Rattle.sam_link.specs.Meeting.{FindsNoFault}
use Rattle.sam_link.specs.Sessions.{Carries, IsFrom, IsId, StartsWith, WasCarried}
use Rattle.sam_link.specs.Calls.{bytes_of, handed, put}
use Rattle.sam_link.specs.Calls.Call.{Answer}
use Rattle.sam_link.specs.declared.fault.AnswerFault.{AnswerFault}
use Rattle.sam_link.specs.declared.hello.Hello.{Hello}
use Rattle.sam_served.specs.Serving.{LeadsServed, Served, asides_by_records, asides_by_calls, new_served, records_in}
use Rattle.sam_served.specs.Serving.{Event as ServedEvent}
use Rattle.sam_link.specs.declared.hello.Id.{Id}
use Rattle.sam_host.specs.Host.{new_host}
use Rattle.sam_host.specs.Laws.{AreGiven}
use Rattle.sam_endpoint.specs.HostEndpoints.{PlainHostEndpoint}
use Rattle.sam_endpoint.specs.HostRuns.{begun_with, Call as HostCall, Runs as HostRuns, asides_by}
use Rattle.sam_endpoint.specs.TermEndpoints.{PlainTermEndpoint, new_term_endpoint}
use Rattle.sam_endpoint.specs.TermRuns.{put_in, Call as TermCall, Runs as TermRuns, came_in as came_down, went_out as went_up}
use Rattle.sam_joined.specs.Joined.{AreAsIfLocal, AreCarried, AreOneRun, GoOn}
use Rattle.sam_joined.specs.Linked.{AreLinked}
use Rattle.sam_served.specs.Crashes.{DurableSession, Event, LeadsOverCrashes, new_durable_session}

-- What came out at each end is the first of what was put at the other, of the host's calls those that its crashes left; and the next call
-- of either end finds no fault in what it brings: a hello after a crash is taken, unless its connection is an old one
pub record CarriesOver (id : Id) (w : DurableSession) : Type 0 where
  pub carries : Carries w.session
  pub host : (call : Call) (next : End) → Does w.session.host call next
      → WasCarried w.session.host_calls w.session.terminal_calls call → FindsNoFault call
  pub terminal : (call : Call) (next : End) → Does w.session.terminal call next
      → WasCarried w.session.terminal_calls w.session.host_calls call → FindsNoFault call

abbrev pub CrashesCarry : Type 0
CrashesCarry =
    (id : Id) (events : List Event) (w : DurableSession) → IsId id → LeadsOverCrashes id (new_durable_session id) events w
    → CarriesOver id w

-- Two endpoints over such a link, of the host's endpoint with the calls that its crashes left, are where one run of a world leaves them,
-- neither stops but for a full count, and what they show is what the editor without a network shows
abbrev pub CrashedAreOneRun : Type 0
CrashedAreOneRun =
    (given : List (List ℕ × List ℕ)) (id : Id) (events : List Event) (w : DurableSession) (host_calls : List HostCall)
    (term_calls : List TermCall) (e : PlainHostEndpoint) (g : PlainTermEndpoint)
    → AreGiven given → HostRuns (begun_with (new_host given)) host_calls e → TermRuns new_term_endpoint term_calls g
    → IsId id → LeadsOverCrashes id (new_durable_session id) events w → AreLinked host_calls term_calls e g w.session
    → (up : List ℕ) × (down : List ℕ) × AreCarried given (flat_map asides_by host_calls) (flat_map put_in term_calls) up down e g
    × (run : AreOneRun given (flat_map asides_by host_calls) (flat_map put_in term_calls) up down e g) × GoOn e g
    × AreAsIfLocal run

-- ## Servers

-- Two ends, of which the host is a server that may crash: of what the terminal's endpoint handed out, or has pending, its program put the
-- first, and of what came out of its link the endpoint took in the first. Then both are where one run of a world leaves them, neither
-- stops but for a full count, and what the terminal shows is what the editor without a network shows, with the files that the records say
abbrev pub ServedAreOneRun : Type 0
ServedAreOneRun =
    (id : Id) (events : List ServedEvent) (w : Served) (term_calls : List TermCall) (g : PlainTermEndpoint)
    → IsId id → LeadsServed id (new_served id) events w → TermRuns new_term_endpoint term_calls g
    → StartsWith (flat_map went_up term_calls ++ g.pending_bytes) (bytes_of (put w.terminal_calls))
    → StartsWith (bytes_of (handed w.terminal_calls)) (flat_map came_down term_calls)
    → (host_calls : List HostCall) × (asides_by_calls host_calls ≡ asides_by_records (records_in w.log)) × (up : List ℕ) × (down : List ℕ)
    × AreCarried [] (flat_map asides_by host_calls) (flat_map put_in term_calls) up down w.server.host g
    × (run : AreOneRun [] (flat_map asides_by host_calls) (flat_map put_in term_calls) up down w.server.host g) × GoOn w.server.host g
    × AreAsIfLocal run

-- a hello that was carried is taken, or its connection is an old one; so none is refused for a wrong count, whatever a crash lost
abbrev pub ServedFindNoFault : Type 0
ServedFindNoFault =
    (id : Id) (events : List ServedEvent) (w : Served) (hello : Hello) (answer : Result (Unit {0}) AnswerFault) (next : End)
    → IsId id → LeadsServed id (new_served id) events w → IsFrom w.terminal_calls hello → Does w.server.link (Answer hello answer) next
    → FindsNoFault (Answer hello answer)
