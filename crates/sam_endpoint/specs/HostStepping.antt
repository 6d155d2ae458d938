-- A host end that takes in bytes and goes on by single steps.
use Rattle.std.specs.Prelude.{◌≡◌, ◌≢◌, ◌⊎◌, ℕ, zero, suc, ◌+◌, ◌^◌, ◌<◌, ◌≤◌, List, [], ◌∷◌, length, slice_get, Option, option_and_then, Some, None, Result, Ok, Err}
use Rattle.sam_mesg.specs.declared.tmesg.Tmesg.{Tmesg}
use Rattle.sam_mesg.specs.TerminalKinds.{kind_t}
use Rattle.sam_frame.specs.Framing.{HasRoom}
use Rattle.sam_host.specs.Edits.{EditFile}
use Rattle.sam_host.specs.Host.{answer}
use Rattle.sam_endpoint.specs.declared.fault.HostStop.{HostStop}
use Rattle.sam_endpoint.specs.declared.fault.HostStop.TheVariants as stop
use Rattle.sam_endpoint.specs.declared.fault.EndpointFault.{EndpointFault}
use Rattle.sam_endpoint.specs.declared.fault.EndpointFault.TheVariants as fault
use Rattle.sam_endpoint.specs.declared.step.BringFault.{BringFault}
use Rattle.sam_endpoint.specs.declared.step.BringFault.TheVariants as bring
use Rattle.sam_endpoint.specs.declared.step.HostStep.{HostStep}
use Rattle.sam_endpoint.specs.declared.step.HostStep.TheVariants.{Idle, Wrote, Edited, Answered}
use Rattle.sam_endpoint.specs.Naming.{file_of_t}
use Rattle.sam_endpoint.specs.HostEndpoints.{PlainHostEndpoint, Feeds, IsDone, TakesIn}
use Rattle.sam_endpoint.specs.HostSteps.{Answer, AnswersFirst, Handles, TakesEdits, stopped, written}

-- it goes on, and nothing of before waits: no message, no frame, no fault of the stream
abbrev pub IsReady : PlainHostEndpoint → Type 0
IsReady e = (e.stop ≡ None) × IsDone e

-- the piece is taken in, and its messages wait; or why it is not, and all is as before
abbrev pub BringsIn : PlainHostEndpoint → List ℕ → Result (Unit {0}) (BringFault HostStop) → PlainHostEndpoint → Type 0
BringsIn e piece (Ok done) g = IsReady e × TakesIn e piece g
BringsIn e piece (Err (bring.Stopped why)) g = (e.stop ≡ Some why) × (g ≡ e)
BringsIn e piece (Err bring.Waiting) g = (e.stop ≡ None) × (IsDone e → ⊥) × (g ≡ e)
BringsIn e piece (Err bring.CountFull) g = IsReady e × (2 ^ 64 ≤ e.framer.offset + length e.framer.bytes + length piece) × (g ≡ e)
BringsIn e piece (Err bring.OutOfMemory) g = IsReady e × HasRoom e.framer piece × (g ≡ e)

-- the host took so many messages that waited first: edits of this file, the first one too, and the checks among them
pub record TookEdits (e : PlainHostEndpoint) (tag count : ℕ) (g : PlainHostEndpoint) : Type 0 where
  pub edits : TakesEdits e g
  pub count_is : length edits.messages ≡ count
  pub named : option_and_then file_of_t (slice_get e.waiting 0) ≡ Some tag
  pub one_file : EditFile tag edits.messages

-- the host answered the oldest message, which has this kind and names this file
pub record AnsweredFirst (e : PlainHostEndpoint) (kind : ℕ) (tag : Option ℕ) (g : PlainHostEndpoint) : Type 0 where
  pub first : AnswersFirst e g
  pub kind_is : kind ≡ kind_t first.message
  pub named : tag ≡ file_of_t first.message

-- what a step does where nothing is left over to be written, and a message waits
abbrev pub StepsWaiting : PlainHostEndpoint → Result HostStep (EndpointFault HostStop) → PlainHostEndpoint → Type 0
StepsWaiting e (Ok Idle) g = ⊥
StepsWaiting e (Ok Wrote) g = ⊥
StepsWaiting e (Ok (Edited tag count)) g = TookEdits e tag count g
StepsWaiting e (Ok (Answered kind tag)) g = AnsweredFirst e kind tag g
StepsWaiting e (Err why) g = Handles e (Err why) g

-- it goes on, and no frame is left over to be written
abbrev pub IsWritten : PlainHostEndpoint → Type 0
IsWritten e = (e.stop ≡ None) × (e.unwritten ≡ [])

-- it stops for this reason: at the stream's fault after all messages, or at the oldest message, which the host refuses
abbrev pub StopsBy : PlainHostEndpoint → HostStop → PlainHostEndpoint → Type 0
StopsBy e (stop.Stream why) g = (e.waiting ≡ []) × (e.broken_by ≡ Some why) × (g ≡ stopped e (stop.Stream why))
StopsBy e (stop.Refused why) g =
    (message : Tmesg) × (rest : List Tmesg)
    × (e.waiting ≡ message ∷ rest) × (answer e.host message ≡ Err why) × (g ≡ stopped e (stop.Refused why))

-- what one step answers, and how it leaves the end: an error but for the one at which it stops leaves all as it was
abbrev pub Steps : PlainHostEndpoint → Result HostStep (EndpointFault HostStop) → PlainHostEndpoint → Type 0
Steps e (Ok Idle) g = IsReady e × (g ≡ e)
Steps e (Ok Wrote) g = (e.stop ≡ None) × (0 < length e.unwritten) × (g ≡ written e)
Steps e (Ok (Edited tag count)) g = IsWritten e × TookEdits e tag count g
Steps e (Ok (Answered kind tag)) g = IsWritten e × AnsweredFirst e kind tag g
Steps e (Err fault.Unfinished) g = (e.stop ≡ None) × (0 < length e.waiting + length e.unwritten) × (g ≡ e)
Steps e (Err (fault.Stopped why)) g = ((e.stop ≡ Some why) × (g ≡ e)) ⊎ (IsWritten e × StopsBy e why g)
Steps e (Err fault.OutOfMemory) g = ⊥
Steps e (Err fault.CountFull) g = ⊥

-- ## The law

-- so many steps did something, and one after them had nothing to do, or could not do it
abbrev pub GoesBySteps : ℕ → PlainHostEndpoint → Answer → PlainHostEndpoint → Type 0
GoesBySteps zero e (Ok done) g = Steps e (Ok Idle) g
GoesBySteps zero e (Err why) g = Steps e (Err why) g
GoesBySteps (suc n) e answer g =
    (step : HostStep) × (k : PlainHostEndpoint) × (step ≢ Idle) × Steps e (Ok step) k × GoesBySteps n k answer g

-- to bring a piece, and then to go on by steps to their end, is to feed it
abbrev pub HostStepsFeed : Type 0
HostStepsFeed =
    (n : ℕ) (piece : List ℕ) (answer : Answer) (e k g : PlainHostEndpoint)
    → BringsIn e piece (Ok tt) k → GoesBySteps n k answer g → Feeds e piece answer g
