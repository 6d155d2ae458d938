-- What it comes to that a client says that the host has all.
use Rattle.std.specs.Prelude.{◌≡◌, ℕ, List, ◌++◌, flat_map, Bool}
use Rattle.sam_frame.specs.Direction.{terminal}
use Rattle.sam_frame.specs.Stream.{stream_of}
use Rattle.sam_link.specs.Calls.{bytes_of, handed, waits}
use Rattle.sam_link.specs.Sessions.{IsId}
use Rattle.sam_link.specs.declared.hello.Id.{Id}
use Rattle.sam_line.specs.Sessions.{LineSession}
use Rattle.sam_endpoint.specs.TermRuns.{put_in, Call as EndCall, HasDone, came_in, handed_out, went_out}
use Rattle.sam_client.specs.Clients.{Act}
use Rattle.sam_client.specs.Delivery.{HasAll}
use Rattle.sam_client.specs.declared.client.Client.{Client}
use Rattle.sam_attached.specs.Runs.{put_by}
use Rattle.sam_attached.specs.Sessions.{IsSession}

-- The bytes that went into the line are all that the client's end composed, of all events that it was given; and they, and the notes, each
-- at its place, came out at the host's end of the link, or wait there
pub record IsDelivered (acts : List Act) (n : Client) (s : LineSession) : Type 0 where
  pub end_calls : List EndCall
  pub done : HasDone (flat_map came_in end_calls) (flat_map put_in end_calls) (flat_map went_out end_calls) (flat_map handed_out end_calls)
      n.ordered.overlay.end
  pub composed : bytes_of (flat_map put_by acts) ≡ stream_of terminal done.composed
  pub there : flat_map put_by acts ≡ handed s.host_calls ++ waits s.host.waiting

-- in a session whose line is the client's
abbrev pub HasAllIsTrue : Type 0
HasAllIsTrue =
    (id : Id) (take_over : Bool) (now : ℕ) (acts : List Act) (n : Client) (s : LineSession) → IsId id → IsSession id take_over now acts n s
    → s.line ≡ n.line → HasAll n → IsDelivered acts n s
