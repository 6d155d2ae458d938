-- What the steps of a host end do, of which its calls are made.
use Rattle.std.specs.Prelude.{◌≡◌, ◌⊎◌, ℕ, ◌+◌, ◌^◌, ◌<◌, ◌≤◌, List, [], ◌∷◌, ◌++◌, length, false, Some, None, Result, Ok, Err}
use Rattle.sam_mesg.specs.declared.tmesg.Tmesg.{Tmesg}
use Rattle.sam_mesg.specs.declared.hmesg.HFrame.{HFrame}
use Rattle.sam_frame.specs.Direction.{host, terminal}
use Rattle.sam_frame.specs.Framing.{HasRoom}
use Rattle.sam_frame.specs.Stream.{CanEncode, stream_of}
use Rattle.sam_host.specs.Edits.{EditFile, TakesAll}
use Rattle.sam_host.specs.Host.{PlainHost, answer}
use Rattle.sam_endpoint.specs.declared.fault.HostStop.{HostStop}
use Rattle.sam_endpoint.specs.declared.fault.HostStop.TheVariants as stop
use Rattle.sam_endpoint.specs.declared.fault.EndpointFault.{EndpointFault}
use Rattle.sam_endpoint.specs.declared.fault.EndpointFault.TheVariants as fault
use Rattle.sam_endpoint.specs.Streams.{FitFrames}
use Rattle.sam_endpoint.specs.HostEndpoints.{PlainHostEndpoint, TakesIn, writes_of}

-- what holds of every host end
pub record IsSound (e : PlainHostEndpoint) : Type 0 where
  pub waiting : CanEncode terminal e.waiting
  pub unwritten : CanEncode host e.unwritten
  pub reads : e.broken_by ≡ None → e.framer.failed ≡ false

abbrev pub Answer : Type 0
Answer = Result (Unit {0}) (EndpointFault HostStop)

-- the frames of the last answer are in the pending bytes
abbrev pub written : PlainHostEndpoint → PlainHostEndpoint
written e = record e { unwritten = []; pending_bytes = e.pending_bytes ++ stream_of host e.unwritten }

-- the frames of the last answer, and then these, are in the pending bytes
abbrev pub written_behind : PlainHostEndpoint → List HFrame → PlainHostEndpoint
written_behind e frames = record e { unwritten = []; pending_bytes = e.pending_bytes ++ stream_of host (e.unwritten ++ frames) }

-- it has stopped for this reason
abbrev pub stopped : PlainHostEndpoint → HostStop → PlainHostEndpoint
stopped e why = record e { stop = Some why }

-- the frames of the last answer are written, or all stays
abbrev pub Writes : PlainHostEndpoint → Answer → PlainHostEndpoint → Type 0
Writes e (Ok done) g = g ≡ written e
Writes e (Err fault.Unfinished) g = (0 < length e.unwritten) × (g ≡ e)
Writes e (Err fault.OutOfMemory) g = ⊥
Writes e (Err fault.CountFull) g = ⊥
Writes e (Err (fault.Stopped why)) g = ⊥

-- the host answered the oldest message that waited
pub record AnswersFirst (e : PlainHostEndpoint) (g : PlainHostEndpoint) : Type 0 where
  pub message : Tmesg
  pub rest : List Tmesg
  pub host : PlainHost
  pub frames : List HFrame
  pub waited : e.waiting ≡ message ∷ rest
  pub answered : answer e.host message ≡ Ok (host, frames)
  pub frames_fit : FitFrames frames
  pub after : g ≡ record e { host = host; waiting = rest; unwritten = frames; writes = e.writes ++ writes_of e.host message }

-- it is answered, or all stays, or the host refuses it
abbrev pub Handles : PlainHostEndpoint → Answer → PlainHostEndpoint → Type 0
Handles e (Ok done) g = AnswersFirst e g
Handles e (Err fault.Unfinished) g = (0 < length e.waiting) × (g ≡ e)
Handles e (Err (fault.Stopped (stop.Refused why))) g =
    (message : Tmesg) × (rest : List Tmesg)
    × (e.waiting ≡ message ∷ rest) × (answer e.host message ≡ Err why) × (g ≡ stopped e (stop.Refused why))
Handles e (Err (fault.Stopped (stop.Stream why))) g = ⊥
Handles e (Err fault.OutOfMemory) g = ⊥
Handles e (Err fault.CountFull) g = ⊥

-- the host took some messages that waited first: edits of one file, and the checks among them, whose answers are these frames
pub record TakesEdits (e : PlainHostEndpoint) (g : PlainHostEndpoint) : Type 0 where
  pub messages : List Tmesg
  pub rest : List Tmesg
  pub host : PlainHost
  pub some : 0 < length messages
  pub waited : e.waiting ≡ messages ++ rest
  pub frames : List HFrame
  pub taken : TakesAll e.host messages frames host
  pub frames_fit : FitFrames frames
  pub file : ℕ
  pub one_file : EditFile file messages
  pub after : g ≡ record e { host = host; waiting = rest; unwritten = frames }

-- so many
abbrev pub TakesSo : PlainHostEndpoint → ℕ → PlainHostEndpoint → Type 0
TakesSo e count g = (took : TakesEdits e g) × (length took.messages ≡ count)

-- what waited first is answered, or all stays, or the host refuses the oldest message
abbrev pub HandlesNext : PlainHostEndpoint → Answer → PlainHostEndpoint → Type 0
HandlesNext e (Ok done) g = AnswersFirst e g ⊎ TakesEdits e g
HandlesNext e (Err why) g = Handles e (Err why) g

-- all is answered and written: it stops where the stream shows a fault after that, else it stays
abbrev pub Ends : PlainHostEndpoint → Answer → PlainHostEndpoint → Type 0
Ends e (Ok done) g = (e.broken_by ≡ None) × (g ≡ e)
Ends e (Err (fault.Stopped (stop.Stream why))) g = (e.broken_by ≡ Some why) × (g ≡ stopped e (stop.Stream why))
Ends e (Err (fault.Stopped (stop.Refused why))) g = ⊥
Ends e (Err fault.Unfinished) g = ⊥
Ends e (Err fault.OutOfMemory) g = ⊥
Ends e (Err fault.CountFull) g = ⊥

-- the framer takes the piece in, or all stays
abbrev pub Brings : PlainHostEndpoint → List ℕ → Answer → PlainHostEndpoint → Type 0
Brings e piece (Ok done) g = TakesIn e piece g
Brings e piece (Err fault.OutOfMemory) g = HasRoom e.framer piece × (g ≡ e)
Brings e piece (Err fault.CountFull) g = (2 ^ 64 ≤ e.framer.offset + length e.framer.bytes + length piece) × (g ≡ e)
Brings e piece (Err fault.Unfinished) g = ⊥
Brings e piece (Err (fault.Stopped why)) g = ⊥
