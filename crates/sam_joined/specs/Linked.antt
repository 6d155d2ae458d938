-- Two endpoints, each at its end of a link whose connections may break.
use Rattle.std.specs.Prelude.{◌≡◌, ◌⊎◌, ℕ, List, [], ◌∷◌, ◌++◌, flat_map, None}
use Rattle.sam_link.specs.Calls.{bytes_of, handed, put, waits}
use Rattle.sam_link.specs.Meeting.{IsAllCarried}
use Rattle.sam_link.specs.Sessions.{IsId, Leads, Session, StartsWith, Step, new_session}
use Rattle.sam_link.specs.Turns.{TakeTurns}
use Rattle.sam_link.specs.declared.hello.Id.{Id}
use Rattle.sam_host.specs.Host.{new_host}
use Rattle.sam_host.specs.Laws.{AreGiven}
use Rattle.sam_term.specs.declared.event.UserEvent.{UserEvent}
use Rattle.sam_endpoint.specs.HostEndpoints.{PlainHostEndpoint, IsIdle as IsHostIdle}
use Rattle.sam_endpoint.specs.HostRuns.{begun_with, Call as HostCall, Runs as HostRuns, Stops as HostStops, came_in as came_up, asides_by, went_out as went_down}
use Rattle.sam_endpoint.specs.TermEndpoints.{PlainTermEndpoint, IsIdle as IsTermIdle, IsQuiet, new_term_endpoint}
use Rattle.sam_endpoint.specs.TermRuns.{put_in, Call as TermCall, Runs as TermRuns, Stops as TermStops, came_in as came_down, went_out as went_up}
use Rattle.sam_endpoint.specs.declared.fault.HostStop.{HostStop}
use Rattle.sam_endpoint.specs.declared.fault.HostStop.TheVariants as host_stop
use Rattle.sam_endpoint.specs.declared.fault.TermStop.{TermStop}
use Rattle.sam_endpoint.specs.declared.fault.TermStop.TheVariants as term_stop
use Rattle.sam_host.specs.declared.fault.HostFault.TheVariants as host_fault
use Rattle.sam_term.specs.declared.fault.TermFault.TheVariants as term_fault
use Rattle.sam_local.specs.Local.{carried_all, carried_through, clean_files, events_in}
use Rattle.sam_local.specs.Worlds.{doings_of}
use Rattle.sam_apart.specs.Apart.{Asides, joined_in, marked_in}
use Rattle.sam_rest.specs.Rest.{HasRoom, IsDone}
use Rattle.sam_joined.specs.Calls.{Carry}
use Rattle.sam_joined.specs.Joined.{AreAsIfLocal, AreCarried, AreOneRun, GoOn, both}

-- Each program moves bytes between its endpoint and its end of the link: of what the endpoint handed out, or has pending, it put the
-- first, and of what came out of the link the endpoint took in the first. Notes are no bytes of an endpoint
pub record AreLinked (host_calls : List HostCall) (term_calls : List TermCall) (e : PlainHostEndpoint) (g : PlainTermEndpoint) (s : Session)
    : Type 0 where
  pub term_puts : StartsWith (flat_map went_up term_calls ++ g.pending_bytes) (bytes_of (put s.terminal_calls))
  pub host_takes : StartsWith (bytes_of (handed s.host_calls)) (flat_map came_up host_calls)
  pub host_puts : StartsWith (flat_map went_down host_calls ++ e.pending_bytes) (bytes_of (put s.host_calls))
  pub term_takes : StartsWith (bytes_of (handed s.terminal_calls)) (flat_map came_down term_calls)

-- each program has moved all between its endpoint and its end of the link
pub record HaveMoved (host_calls : List HostCall) (term_calls : List TermCall) (e : PlainHostEndpoint) (g : PlainTermEndpoint) (s : Session)
    : Type 0 where
  pub none_wait_up : bytes_of (waits s.host.waiting) ≡ []
  pub none_wait_down : bytes_of (waits s.terminal.waiting) ≡ []
  pub term_put_all : flat_map went_up term_calls ++ g.pending_bytes ≡ bytes_of (put s.terminal_calls)
  pub host_took_all : bytes_of (handed s.host_calls) ≡ flat_map came_up host_calls
  pub host_put_all : flat_map went_down host_calls ++ e.pending_bytes ≡ bytes_of (put s.host_calls)
  pub term_took_all : bytes_of (handed s.terminal_calls) ≡ flat_map came_down term_calls

-- and a connection has carried all
pub record HaveMovedAll (host_calls : List HostCall) (term_calls : List TermCall) (e : PlainHostEndpoint) (g : PlainTermEndpoint)
    (s : Session) : Type 0 where
  pub carried : IsAllCarried s
  pub moved : HaveMoved host_calls term_calls e g s

-- ## The laws

-- whatever broke, it is as if one line had carried the bytes, of which some are still on their way
abbrev pub LinksAreOneLine : Type 0
LinksAreOneLine =
    (id : Id) (steps : List Step) (s : Session) (host_calls : List HostCall) (term_calls : List TermCall)
    (e : PlainHostEndpoint) (g : PlainTermEndpoint)
    → IsId id → Leads (new_session id) steps s → AreLinked host_calls term_calls e g s
    → (up : List ℕ) × (down : List ℕ) × Carry host_calls term_calls up down e g

-- and where all was moved none is on its way
abbrev pub MovedIsCarried : Type 0
MovedIsCarried =
    (id : Id) (steps : List Step) (s : Session) (host_calls : List HostCall) (term_calls : List TermCall)
    (e : PlainHostEndpoint) (g : PlainTermEndpoint)
    → IsId id → Leads (new_session id) steps s → HaveMovedAll host_calls term_calls e g s
    → Carry host_calls term_calls [] [] e g

-- and where, after any calls, each end took a turn on a good line
abbrev pub GoodLineCarries : Type 0
GoodLineCarries =
    (id : Id) (steps : List Step) (s z : Session) (host_calls : List HostCall) (term_calls : List TermCall)
    (e : PlainHostEndpoint) (g : PlainTermEndpoint)
    → IsId id → Leads (new_session id) steps s → TakeTurns s z → HaveMoved host_calls term_calls e g z
    → Carry host_calls term_calls [] [] e g

-- so two endpoints over a link are where one run of a world leaves them, neither stops but for a full count, and what they show is what
-- the editor without a network shows
abbrev pub LinkedAreOneRun : Type 0
LinkedAreOneRun =
    (given : List (List ℕ × List ℕ)) (id : Id) (steps : List Step) (s : Session) (host_calls : List HostCall) (term_calls : List TermCall)
    (e : PlainHostEndpoint) (g : PlainTermEndpoint)
    → AreGiven given → HostRuns (begun_with (new_host given)) host_calls e → TermRuns new_term_endpoint term_calls g
    → IsId id → Leads (new_session id) steps s → AreLinked host_calls term_calls e g s
    → (up : List ℕ) × (down : List ℕ) × AreCarried given (flat_map asides_by host_calls) (flat_map put_in term_calls) up down e g
    × (run : AreOneRun given (flat_map asides_by host_calls) (flat_map put_in term_calls) up down e g) × GoOn e g
    × AreAsIfLocal run

-- a call that stops the host endpoint does so for a full count, and leaves both as over one line
abbrev pub NoCallStopsTheLinkedHost : Type 0
NoCallStopsTheLinkedHost =
    (given : List (List ℕ × List ℕ)) (id : Id) (steps : List Step) (s : Session)
    (host_calls : List HostCall) (last : HostCall) (term_calls : List TermCall)
    (why : HostStop) (k e : PlainHostEndpoint) (g : PlainTermEndpoint)
    → AreGiven given → HostRuns (begun_with (new_host given)) host_calls k → HostStops k last why e
    → TermRuns new_term_endpoint term_calls g
    → IsId id → Leads (new_session id) steps s → AreLinked (host_calls ++ last ∷ []) term_calls e g s
    → (taken : List HostCall) × ((taken ≡ host_calls ++ last ∷ []) ⊎ (taken ≡ host_calls))
    × (up : List ℕ) × (down : List ℕ) × AreCarried given (flat_map asides_by taken) (flat_map put_in term_calls) up down e g
    × (why ≡ host_stop.Refused host_fault.CountFull)

-- and so one that stops the terminal endpoint
abbrev pub NoCallStopsTheLinkedTerminal : Type 0
NoCallStopsTheLinkedTerminal =
    (given : List (List ℕ × List ℕ)) (id : Id) (steps : List Step) (s : Session)
    (host_calls : List HostCall) (term_calls : List TermCall) (last : TermCall)
    (why : TermStop) (e : PlainHostEndpoint) (k g : PlainTermEndpoint)
    → AreGiven given → HostRuns (begun_with (new_host given)) host_calls e
    → TermRuns new_term_endpoint term_calls k → TermStops k last why g
    → IsId id → Leads (new_session id) steps s → AreLinked host_calls (term_calls ++ last ∷ []) e g s
    → (taken : List TermCall) × ((taken ≡ term_calls ++ last ∷ []) ⊎ (taken ≡ term_calls))
    × (up : List ℕ) × (down : List ℕ) × AreCarried given (flat_map asides_by host_calls) (flat_map put_in taken) up down e g
    × (why ≡ term_stop.Refused term_fault.CountFull)

-- ## What was typed is in the host's text

-- neither endpoint has anything left to do
pub record HaveDone (e : PlainHostEndpoint) (g : PlainTermEndpoint) : Type 0 where
  pub host_idle : IsHostIdle e
  pub term_idle : IsTermIdle g
  pub none_unsent : g.term.unsent ≡ None
  pub quiet : IsQuiet g.term

-- All that the user did was done, in one order with the files that joined. The host's files, with their names and texts, are those of the
-- editor without a network after that; where no file joined, after just what the user did. Where no file was marked, so it is with their
-- marks
pub record IsInTheText {given : List (List ℕ × List ℕ)} {asides : Asides} {said : List UserEvent} {up down : List ℕ}
    {e : PlainHostEndpoint} {g : PlainTermEndpoint} (run : AreOneRun given asides said up down e g) : Type 0 where
  pub events : said ≡ events_in (doings_of given run.events)
  pub files : clean_files e.host.files ≡ clean_files (carried_through given (doings_of given run.events)).host.files
  pub marks : marked_in asides ≡ [] → e.host.files ≡ (carried_through given (doings_of given run.events)).host.files
  pub alone : joined_in asides ≡ []
      → (clean_files e.host.files ≡ clean_files (carried_all given said).host.files)
      × (marked_in asides ≡ [] → e.host.files ≡ (carried_all given said).host.files)

-- Whatever was called before and whatever broke, nothing is held, locked or awaited. And whichever run led here, what was typed is in the
-- text
abbrev pub TypedIsInTheText : Type 0
TypedIsInTheText =
    (given : List (List ℕ × List ℕ)) (id : Id) (steps : List Step) (s z : Session)
    (host_calls : List HostCall) (term_calls : List TermCall) (e : PlainHostEndpoint) (g : PlainTermEndpoint)
    → AreGiven given → HostRuns (begun_with (new_host given)) host_calls e → TermRuns new_term_endpoint term_calls g
    → IsId id → Leads (new_session id) steps s → TakeTurns s z → HaveMoved host_calls term_calls e g z
    → HaveDone e g → HasRoom (both e g)
    → AreOneRun given (flat_map asides_by host_calls) (flat_map put_in term_calls) [] [] e g
    × IsDone (both e g)
    × ((run : AreOneRun given (flat_map asides_by host_calls) (flat_map put_in term_calls) [] [] e g) → IsInTheText run)
