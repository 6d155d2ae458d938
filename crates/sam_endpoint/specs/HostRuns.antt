-- A run of calls of a host end, and what it comes to.
use Rattle.std.specs.Prelude.{◌≡◌, ◌⊎◌, ℕ, ◌+◌, List, [], ◌∷◌, ◌++◌, drop, flat_map, slice_get, Option, Some, option_map, option_to_list, Result, Ok, Err}
use Rattle.std.specs.Str.{chars}
use Rattle.sam_mesg.specs.declared.tmesg.Tmesg.{Tmesg}
use Rattle.sam_mesg.specs.declared.hmesg.HFrame.{HFrame}
use Rattle.sam_frame.specs.Direction.{host, terminal}
use Rattle.sam_frame.specs.Stream.{stream_of}
use Rattle.sam_frame.specs.Reading.{IsStream}
use Rattle.sam_host.specs.Asides.{Aside, Joins, Marks}
use Rattle.sam_host.specs.Host.{PlainHost, answer}
use Rattle.sam_host.specs.declared.fault.MarkFault.{MarkFault}
use Rattle.sam_endpoint.specs.declared.fault.AddFault.{AddFault}
use Rattle.sam_endpoint.specs.declared.fault.HostStop.{HostStop}
use Rattle.sam_endpoint.specs.declared.fault.HostStop.TheVariants as stop
use Rattle.sam_endpoint.specs.declared.fault.EndpointFault.{EndpointFault}
use Rattle.sam_endpoint.specs.declared.fault.EndpointFault.TheVariants as fault
use Rattle.sam_endpoint.specs.declared.step.BringFault.{BringFault}
use Rattle.sam_endpoint.specs.declared.step.HostStep.{HostStep}
use Rattle.sam_endpoint.specs.Streams.{FitFrames, GoesOnAfter, if_brought, if_taken, mesg_fault}
use Rattle.sam_endpoint.specs.HostEndpoints.{PlainHostEndpoint, Step, Answered, Joined, Marked, Adds, Feeds, IsIdle, Serves, new_host_endpoint, Marks as MarksFile}
use Rattle.sam_endpoint.specs.HostStepping.{BringsIn, Steps}
use Rattle.sam_endpoint.specs.HostSteps.{Answer}

-- ## What a host did

abbrev pub message_in : Step → List Tmesg
message_in (Answered message) = message ∷ []
message_in (Joined file) = []
message_in (Marked f) = []

-- the messages that it answered, in order
abbrev pub messages_in : List Step → List Tmesg
messages_in steps = flat_map message_in steps

-- the files that joined or were marked, each with how many messages it had answered by then, where it had answered so many before these
-- steps
abbrev pub asides_after : ℕ → List Step → List (ℕ × Aside)
asides_after count [] = []
asides_after count (Answered message ∷ steps) = asides_after (count + 1) steps
asides_after count (Joined file ∷ steps) = (count, Joins file) ∷ asides_after count steps
asides_after count (Marked f ∷ steps) = (count, Marks f) ∷ asides_after count steps

-- ## Calls

pub data Call : Type 0 where
  Feed : List ℕ → Answer → Call  -- a piece was fed
  Bring : List ℕ → Result (Unit {0}) (BringFault HostStop) → Call  -- a piece was brought
  MakeStep : Result HostStep (EndpointFault HostStop) → Call  -- the end went on by one step
  AddFile : ℕ → List ℕ → List ℕ → Result ℕ AddFault → Call  -- after so many messages a file of this name and text was to join
  MarkDirty : ℕ → ℕ → Result (Unit {0}) MarkFault → Call  -- after so many messages this file was to be marked as dirty
  TakeOut : List ℕ → Call  -- these bytes were taken out
  NextWritten : Option ℕ → Call  -- the next tag to write was asked for, and this one was handed out, or none

-- these calls lead from one end to the other, and at none of them does it stop
abbrev pub Runs : PlainHostEndpoint → List Call → PlainHostEndpoint → Type 0
Runs e [] g = g ≡ e
Runs e (Feed piece answer ∷ calls) g = (k : PlainHostEndpoint) × Feeds e piece answer k × GoesOnAfter answer × Runs k calls g
Runs e (Bring piece result ∷ calls) g = (k : PlainHostEndpoint) × BringsIn e piece result k × Runs k calls g
Runs e (MakeStep result ∷ calls) g = (k : PlainHostEndpoint) × Steps e result k × GoesOnAfter result × Runs k calls g
Runs e (AddFile count name text result ∷ calls) g =
    (k : PlainHostEndpoint) × (count ≡ e.host.taken) × Adds e name text result k × Runs k calls g
Runs e (MarkDirty count f result ∷ calls) g =
    (k : PlainHostEndpoint) × (count ≡ e.host.taken) × MarksFile e f result k × Runs k calls g
Runs e (TakeOut bytes ∷ calls) g = (rest : List ℕ) × (e.pending_bytes ≡ bytes ++ rest) × Runs (record e { pending_bytes = rest }) calls g
Runs e (NextWritten tag ∷ calls) g = (tag ≡ slice_get e.writes 0) × Runs (record e { writes = drop 1 e.writes }) calls g

-- this call stops the end for this reason
abbrev pub Stops : PlainHostEndpoint → Call → HostStop → PlainHostEndpoint → Type 0
Stops e (Feed piece answer) why g = Feeds e piece answer g × (answer ≡ Err (fault.Stopped why))
Stops e (Bring piece result) why g = ⊥
Stops e (MakeStep result) why g = Steps e result g × (result ≡ Err (fault.Stopped why))
Stops e (AddFile count name text result) why g = ⊥
Stops e (MarkDirty count f result) why g = ⊥
Stops e (TakeOut bytes) why g = ⊥
Stops e (NextWritten tag) why g = ⊥

-- the bytes that came in with the call
abbrev pub came_in : Call → List ℕ
came_in (Feed piece answer) = if_taken answer piece
came_in (Bring piece result) = if_brought result piece
came_in (MakeStep result) = []
came_in (AddFile count name text result) = []
came_in (MarkDirty count f result) = []
came_in (TakeOut bytes) = []
came_in (NextWritten tag) = []

-- the bytes that the call took out
abbrev pub went_out : Call → List ℕ
went_out (Feed piece answer) = []
went_out (Bring piece result) = []
went_out (MakeStep result) = []
went_out (AddFile count name text result) = []
went_out (MarkDirty count f result) = []
went_out (TakeOut bytes) = bytes
went_out (NextWritten tag) = []

-- the tag that the call handed out
abbrev pub handed_out : Call → List ℕ
handed_out (Feed piece answer) = []
handed_out (Bring piece result) = []
handed_out (MakeStep result) = []
handed_out (AddFile count name text result) = []
handed_out (MarkDirty count f result) = []
handed_out (TakeOut bytes) = []
handed_out (NextWritten tag) = option_to_list tag

-- the file that joined by the call or was marked by it, with how many messages the host had answered by then
abbrev pub asides_by : Call → List (ℕ × Aside)
asides_by (Feed piece answer) = []
asides_by (Bring piece result) = []
asides_by (MakeStep result) = []
asides_by (AddFile count name text (Ok tag)) = (count, Joins (chars name, chars text)) ∷ []
asides_by (AddFile count name text (Err why)) = []
asides_by (MarkDirty count f (Ok done)) = (count, Marks f) ∷ []
asides_by (MarkDirty count f (Err why)) = []
asides_by (TakeOut bytes) = []
asides_by (NextWritten tag) = []

-- Of a stream that came in, the host has answered the first messages, and the others wait, with what is wrong after them. These files
-- joined or were marked, each after so many answers. All frames of the answers and of the marks fit, and in order they are what was taken
-- out, what is pending and what is not written yet. All tags that the host was told to write, in order, are those that were handed out and
-- those that wait to be.
pub record HasServed (first : PlainHost) (stream out handed : List ℕ) (asides : List (ℕ × Aside))
    (e : PlainHostEndpoint) : Type 0 where
  pub steps : List Step
  pub frames : List HFrame
  pub writes : List ℕ
  pub serves : Serves first steps frames writes e.host
  pub frames_fit : FitFrames frames
  pub asides_are : asides_after first.taken steps ≡ asides
  pub reads : IsStream terminal 1 stream (messages_in steps ++ e.waiting) e.framer.bytes (option_map mesg_fault e.broken_by)
  pub bytes : (out ++ e.pending_bytes) ++ stream_of host e.unwritten ≡ stream_of host frames
  pub written : handed ++ e.writes ≡ writes

-- why it has stopped: the stream shows this fault after messages that are all answered, or the host refuses the oldest that waits
abbrev pub HasStopped : PlainHostEndpoint → HostStop → Type 0
HasStopped e (stop.Stream why) = IsIdle e × (e.broken_by ≡ Some why)
HasStopped e (stop.Refused why) =
    (message : Tmesg) × (rest : List Tmesg) × (e.waiting ≡ message ∷ rest) × (answer e.host message ≡ Err why) × (e.unwritten ≡ [])

-- a new end of this host
abbrev pub begun_with : PlainHost → PlainHostEndpoint
begun_with h = record new_host_endpoint { host = h }

-- ## The laws

abbrev pub RunsServe : Type 0
RunsServe =
    (h : PlainHost) (calls : List Call) (g : PlainHostEndpoint) → Runs (begun_with h) calls g
    → HasServed h (flat_map came_in calls) (flat_map went_out calls) (flat_map handed_out calls) (flat_map asides_by calls) g

-- a run, and then a call that stops it; all that this call brought was taken in, or nothing of it
abbrev pub StopsServe : Type 0
StopsServe =
    (h : PlainHost) (calls : List Call) (last : Call) (e g : PlainHostEndpoint) (why : HostStop)
    → Runs (begun_with h) calls e → Stops e last why g
    → (taken : List Call) × ((taken ≡ calls ++ last ∷ []) ⊎ (taken ≡ calls))
    × HasServed h (flat_map came_in taken) (flat_map went_out taken) (flat_map handed_out taken) (flat_map asides_by taken) g
    × HasStopped g why × (g.stop ≡ Some why)

-- two ends to which the same stream came, and at which the same files joined and were marked, each after as many messages, in whatever
-- pieces and however often they were out of memory, have the same host, the same bytes and the same tags to write
abbrev pub OneOutcome : Type 0
OneOutcome =
    (h : PlainHost) (stream a b v w : List ℕ) (asides : List (ℕ × Aside)) (e g : PlainHostEndpoint)
    → HasServed h stream a v asides e → HasServed h stream b w asides g → IsIdle e → IsIdle g
    → (e.host ≡ g.host) × (a ++ e.pending_bytes ≡ b ++ g.pending_bytes) × (v ++ e.writes ≡ w ++ g.writes) × (e.broken_by ≡ g.broken_by)
