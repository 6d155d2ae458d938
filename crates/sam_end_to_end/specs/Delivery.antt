-- What it comes to that a client says that the host has all, where the program at the other end may be killed at any moment.
use Rattle.std.specs.Prelude.{◌≡◌, ℕ, List, [], ◌++◌, flat_map, Bool}
use Rattle.sam_frame.specs.Direction.{terminal}
use Rattle.sam_frame.specs.Stream.{stream_of}
use Rattle.sam_host.specs.Host.{new_host}
use Rattle.sam_link.specs.Calls.{Item, bytes_of, waits}
use Rattle.sam_link.specs.Inbox.{Waiting}
use Rattle.sam_link.specs.Sessions.{IsId}
use Rattle.sam_link.specs.declared.hello.Id.{Id}
use Rattle.sam_endpoint.specs.HostEndpoints.{PlainHostEndpoint}
use Rattle.sam_endpoint.specs.HostRuns.{Call as HostCall, Runs as HostRuns, begun_with, came_in as came_up}
use Rattle.sam_endpoint.specs.TermRuns.{HasDone, came_in, handed_out, put_in, went_out}
use Rattle.sam_client.specs.Clients.{new_client}
use Rattle.sam_client.specs.Delivery.{HasAll}
use Rattle.sam_attached.specs.Runs.{AreCalls, put_by}
use Rattle.sam_server.specs.declared.server.Stage.TheVariants.{Settled}
use Rattle.sam_end_to_end.specs.Sessions.{Event, Leads, Session, end_in, new_session}

-- The bytes that went into the client's line are all that its end composed, of all events that it was given. They, and the notes, each at
-- its place, came out at the server's end of the link, or wait there; and a host endpoint took in all bytes that came out. Where nothing
-- waits for memory, that endpoint is the server's, and what waits waits at the server's link
pub record IsDelivered (id : Id) (take_over : Bool) (now : ℕ) (s : Session) : Type 0 where
  pub calls : AreCalls (new_client id take_over now) s.acts s.client
  pub done : HasDone (flat_map came_in calls.end_calls) (flat_map put_in calls.end_calls) (flat_map went_out calls.end_calls)
      (flat_map handed_out calls.end_calls) (end_in s)
  pub composed : bytes_of (flat_map put_by s.acts) ≡ stream_of terminal done.composed
  pub items : List Item
  pub waiting : Waiting
  pub there : flat_map put_by s.acts ≡ items ++ waits waiting
  pub host : PlainHostEndpoint
  pub host_calls : List HostCall
  pub runs : HostRuns (begun_with (new_host [])) host_calls host
  pub took : flat_map came_up host_calls ≡ bytes_of items
  pub server : s.program.server.stage ≡ Settled
      → (s.program.server.turn.server.host ≡ host) × (s.program.server.turn.server.link.waiting ≡ waiting)

-- So it is whatever happens, also once a crash was the last that happened: what a client was told is there no crash takes away
abbrev pub HasAllIsTrue : Type 0
HasAllIsTrue =
    (id : Id) (take_over : Bool) (now : ℕ) (events : List Event) (s : Session) → IsId id → Leads id (new_session id take_over now) events s
    → HasAll s.client → IsDelivered id take_over now s
