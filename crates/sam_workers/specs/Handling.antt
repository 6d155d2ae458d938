-- What the host's worker does with its endpoint between two moments.
use Rattle.std.specs.Prelude.{◌≡◌, ◌⊎◌, ℕ, ◌+◌, ◌^◌, ◌<◌, ◌≤◌, Bool, true, false, List, [], ◌++◌, length, min, flat_map, Option, Some, None, Result, Ok, Err}
use Rattle.std.specs.Global.{Vec}
use Rattle.sam_mesg.specs.Faults.{mesg_fault_number}
use Rattle.sam_host.specs.Faults.{host_fault_number}
use Rattle.sam_host.specs.declared.fault.HostFault.{HostFault}
use Rattle.sam_endpoint.specs.declared.fault.StreamFault.{StreamFault}
use Rattle.sam_endpoint.specs.declared.fault.HostStop.{HostStop}
use Rattle.sam_endpoint.specs.declared.fault.HostStop.TheVariants as halt
use Rattle.sam_endpoint.specs.declared.fault.EndpointFault.{EndpointFault}
use Rattle.sam_endpoint.specs.declared.fault.EndpointFault.TheVariants as fault
use Rattle.sam_endpoint.specs.Streams.{mesg_fault}
use Rattle.sam_endpoint.specs.HostEndpoints.{PlainHostEndpoint, TakesIn}
use Rattle.sam_endpoint.specs.HostRuns.{Call, HasStopped, Runs, asides_by, came_in, went_out}
use Rattle.sam_endpoint.specs.HostStepping.{IsReady}
use Rattle.sam_queue.specs.declared.rule.Entry.{Entry}
use Rattle.sam_queue.specs.History.{items_of, IsEnded}
use Rattle.sam_queue.specs.Views.{PostView}
use Rattle.sam_ends.specs.Numbers.{of_refusal}
use Rattle.sam_ends.specs.Inputs.{bytes_of}
use Rattle.sam_ends.specs.declared.stop.Stop.{Stop}
use Rattle.sam_ends.specs.declared.stop.Stop.TheVariants as stop

-- what it is for the worker that its endpoint could not make a step
abbrev pub stop_of : EndpointFault HostStop → Stop
stop_of fault.OutOfMemory = stop.Memory
stop_of fault.Unfinished = stop.Memory
stop_of fault.CountFull = stop.Frame 7
stop_of (fault.Stopped (halt.Stream why)) = stop.Frame (mesg_fault_number (mesg_fault why))
stop_of (fault.Stopped (halt.Refused why)) = of_refusal why

-- Calls of the endpoint led from e to g. So much of the stream came in with them, and no file joined or was marked. The post has put what
-- they took out and what is pending, all but the last of it
pub record Calls (e g : PlainHostEndpoint) (before after : PostView (Vec ℕ)) (came unput : List ℕ) : Type 0 where
  pub calls : List Call
  pub runs : Runs e calls g
  pub came_is : flat_map came_in calls ≡ came
  pub no_aside : flat_map asides_by calls ≡ []
  pub put : bytes_of after.put ++ unput ≡ (bytes_of before.put ++ flat_map went_out calls) ++ g.pending_bytes
  pub line : after.line ≡ before.line
  pub number : after.number ≡ before.number
  pub closed : after.closed ≡ before.closed

-- it goes on, and no byte is pending
abbrev pub IsGoing : PlainHostEndpoint → Type 0
IsGoing e = (e.stop ≡ None) × (e.pending_bytes ≡ [])

-- nor does anything wait
abbrev pub IsQuiet : PlainHostEndpoint → Type 0
IsQuiet e = IsReady e × (e.pending_bytes ≡ [])

-- why the worker stops where its endpoint is so, and this rest of what came is not brought to it
abbrev pub Causes : Type 0 → PlainHostEndpoint → List ℕ → Stop → Type 0
Causes refuses e rest (stop.Frame n) =
    ((n ≡ 7) × (2 ^ 64 ≤ e.framer.offset + length e.framer.bytes + length rest))
    ⊎ ((why : StreamFault) × HasStopped e (halt.Stream why) × (n ≡ mesg_fault_number (mesg_fault why)))
Causes refuses e rest (stop.Host n) = (why : HostFault) × HasStopped e (halt.Refused why) × (n ≡ host_fault_number why)
Causes refuses e rest (stop.Term n) = ⊥
Causes refuses e rest stop.PeerGone = ⊥
Causes refuses e rest stop.Gate = refuses
Causes refuses e rest stop.Memory = Unit {0}

-- of what came, the first bytes were brought to the endpoint, and the worker stopped; the host is as it was then
pub record Halts (refuses : Type 0) (e g : PlainHostEndpoint) (before after : PostView (Vec ℕ)) (bytes : List ℕ) (why : Stop) : Type 0 where
  pub last : PlainHostEndpoint
  pub came : List ℕ
  pub rest : List ℕ
  pub unput : List ℕ
  pub whole : bytes ≡ came ++ rest
  pub made : Calls e last before after came unput
  pub host_is : g.host ≡ last.host
  pub cause : Causes refuses last rest why

-- ## Steps and pieces

-- an upper bound of the steps that are left
abbrev pub to_do : PlainHostEndpoint → ℕ
to_do e = length e.waiting + length e.waiting + min 1 (length e.unwritten)

-- a step did something, and what was pending after it is put; nothing was left to do; or the worker stopped
abbrev pub StepsDown : Type 0 → PlainHostEndpoint → PlainHostEndpoint → PostView (Vec ℕ) → PostView (Vec ℕ) → Result Bool Stop → Type 0
StepsDown refuses e g before after (Ok true) = Calls e g before after [] [] × IsGoing g × (to_do g < to_do e)
StepsDown refuses e g before after (Ok false) = IsQuiet e × (g ≡ e) × (after ≡ before)
StepsDown refuses e g before after (Err why) = Halts refuses e g before after [] why

-- the piece is brought, or why not
abbrev pub Brings : PlainHostEndpoint → PlainHostEndpoint → List ℕ → Result (Unit {0}) Stop → Type 0
Brings e g piece (Ok done) = TakesIn e piece g
Brings e g piece (Err why) = Causes ⊥ e piece why × (g ≡ e)

-- its messages are answered, and the answers are put
abbrev pub TakesPiece : Type 0 → PlainHostEndpoint → PlainHostEndpoint → PostView (Vec ℕ) → PostView (Vec ℕ) → List ℕ
    → Result (Unit {0}) Stop → Type 0
TakesPiece refuses e g before after piece (Ok done) = Calls e g before after piece [] × IsQuiet g
TakesPiece refuses e g before after piece (Err why) = Halts refuses e g before after piece why

-- ## The whole

-- all that was taken, up to the end mark, is answered; or the worker stopped
abbrev pub Serves : Type 0 → PlainHostEndpoint → PlainHostEndpoint → PostView (Vec ℕ) → PostView (Vec ℕ) → List (Entry (Vec ℕ))
    → Option Stop → Type 0
Serves refuses e g before after taken None = Calls e g before after (bytes_of (items_of 0 taken)) [] × IsQuiet g × IsEnded 1 taken
Serves refuses e g before after taken (Some why) = Halts refuses e g before after (bytes_of (items_of 0 taken)) why
