-- A terminal end that takes in bytes and goes on by single steps.
use Rattle.std.specs.Prelude.{◌≡◌, ◌⊎◌, ℕ, zero, suc, ◌+◌, ◌-◌, ◌^◌, ◌<◌, ◌≤◌, List, [], ◌∷◌, length, slice_get, Option, option_and_then, Some, None, Result, Ok, Err}
use Rattle.sam_mesg.specs.declared.tmesg.Tmesg.{Tmesg}
use Rattle.sam_mesg.specs.declared.hmesg.HFrame.{HFrame}
use Rattle.sam_mesg.specs.HostKinds.{kind_h}
use Rattle.sam_frame.specs.Framing.{HasRoom}
use Rattle.sam_term.specs.Events.{file_of}
use Rattle.sam_term.specs.Term.{PlainTerminal, act_of, take_of}
use Rattle.sam_term.specs.declared.event.Acted.TheVariants as become
use Rattle.sam_term.specs.declared.event.UserEvent.{UserEvent}
use Rattle.sam_term.specs.declared.fault.Refusal.{Refusal}
use Rattle.sam_endpoint.specs.declared.fault.TermStop.{TermStop}
use Rattle.sam_endpoint.specs.declared.fault.TermStop.TheVariants as stop
use Rattle.sam_endpoint.specs.declared.fault.EndpointFault.{EndpointFault}
use Rattle.sam_endpoint.specs.declared.fault.EndpointFault.TheVariants as fault
use Rattle.sam_endpoint.specs.declared.changes.Change.{Change}
use Rattle.sam_endpoint.specs.declared.step.BringFault.{BringFault}
use Rattle.sam_endpoint.specs.declared.step.BringFault.TheVariants as bring
use Rattle.sam_endpoint.specs.declared.step.NextFrame.{NextFrame}
use Rattle.sam_endpoint.specs.declared.step.TermStep.{TermStep}
use Rattle.sam_endpoint.specs.declared.step.TermStep.TheVariants.{Idle, Locked, Wrote, Received, Acted, Refused}
use Rattle.sam_endpoint.specs.Naming.{file_of_h}
use Rattle.sam_endpoint.specs.Changes.{change_between, change_by, frame_touch, oldest_touch, touched_len}
use Rattle.sam_endpoint.specs.TermEndpoints.{PlainTermEndpoint, Feeds, IsDone, IsQuiet, TakesIn, oldest, undone, with_event}
use Rattle.sam_endpoint.specs.TermSteps.{Acts, ActsFirst, Answer, Composes, Receives, ReceivesFirst, stopped, written}

-- it goes on, and nothing of before waits but events: no frame, no message, no fault of the stream
abbrev pub IsReady : PlainTermEndpoint → Type 0
IsReady e = (e.stop ≡ None) × IsDone e

-- the piece is taken in, and its frames wait; or why it is not, and all is as before
abbrev pub BringsIn : PlainTermEndpoint → List ℕ → Result (Unit {0}) (BringFault TermStop) → PlainTermEndpoint → Type 0
BringsIn e piece (Ok done) g = IsReady e × TakesIn e piece g
BringsIn e piece (Err (bring.Stopped why)) g = (e.stop ≡ Some why) × (g ≡ e)
BringsIn e piece (Err bring.Waiting) g = (e.stop ≡ None) × (IsDone e → ⊥) × (g ≡ e)
BringsIn e piece (Err bring.CountFull) g = IsReady e × (2 ^ 64 ≤ e.framer.offset + length e.framer.bytes + length piece) × (g ≡ e)
BringsIn e piece (Err bring.OutOfMemory) g = IsReady e × HasRoom e.framer piece × (g ≡ e)

-- nothing is brought, since it has stopped, or something of before waits
abbrev pub IsNotReady : PlainTermEndpoint → BringFault TermStop → Type 0
IsNotReady e (bring.Stopped why) = e.stop ≡ Some why
IsNotReady e bring.Waiting = (e.stop ≡ None) × (IsDone e → ⊥)
IsNotReady e bring.CountFull = ⊥
IsNotReady e bring.OutOfMemory = ⊥

-- the frame waits; or why it is not taken, and all is as before
abbrev pub BringsFrame : PlainTermEndpoint → HFrame → Result (Unit {0}) (BringFault TermStop) → PlainTermEndpoint → Type 0
BringsFrame e frame (Ok done) g = IsReady e × (g ≡ record e { waiting = frame ∷ [] })
BringsFrame e frame (Err (bring.Stopped why)) g = (e.stop ≡ Some why) × (g ≡ e)
BringsFrame e frame (Err bring.Waiting) g = (e.stop ≡ None) × (IsDone e → ⊥) × (g ≡ e)
BringsFrame e frame (Err bring.CountFull) g = ⊥
BringsFrame e frame (Err bring.OutOfMemory) g = IsReady e × (g ≡ e)

-- the event is held after the others; or why it is not taken, and all is as before
abbrev pub BringsEvent : PlainTermEndpoint → UserEvent → Result (Unit {0}) (BringFault TermStop) → PlainTermEndpoint → Type 0
BringsEvent e event (Ok done) g = (e.stop ≡ None) × (g ≡ with_event e event)
BringsEvent e event (Err (bring.Stopped why)) g = (e.stop ≡ Some why) × (g ≡ e)
BringsEvent e event (Err bring.Waiting) g = ⊥
BringsEvent e event (Err bring.CountFull) g = (e.stop ≡ None) × (e.events ≡ 2 ^ 64 - 1) × (g ≡ e)
BringsEvent e event (Err bring.OutOfMemory) g = (e.stop ≡ None) × (e.events < 2 ^ 64 - 1) × (g ≡ e)

-- the unsent runes are composed, and their message is left over to be written; or why they are not: it had stopped, something waits, their
-- message can't be counted, or memory is refused
abbrev pub ComposesIn : PlainTermEndpoint → Result (Unit {0}) (BringFault TermStop) → PlainTermEndpoint → Type 0
ComposesIn e (Ok done) g = IsReady e × Composes e (Ok done) g
ComposesIn e (Err (bring.Stopped why)) g = ((e.stop ≡ Some why) × (g ≡ e)) ⊎ (IsReady e × Composes e (Err (fault.Stopped why)) g)
ComposesIn e (Err bring.Waiting) g = (e.stop ≡ None) × (IsDone e → ⊥) × (g ≡ e)
ComposesIn e (Err bring.CountFull) g = ⊥
ComposesIn e (Err bring.OutOfMemory) g = IsReady e × Composes e (Err fault.OutOfMemory) g

-- what is told of a frame before the terminal receives it: its kind, its file, and the part of the text that will give way
abbrev pub next_frame : PlainTerminal → HFrame → NextFrame
next_frame t frame =
    let touch = frame_touch t frame.msg in let change = change_by touch (touched_len t touch) 0 in
    record { kind = kind_h frame.msg; tag = file_of_h frame.msg; start = change.start; gone = change.gone }

-- the terminal received the oldest frame, which has this kind, names this file, and made this change
pub record ReceivedFirst (e : PlainTermEndpoint) (kind : ℕ) (tag : Option ℕ) (change : Change) (g : PlainTermEndpoint) : Type 0 where
  pub first : ReceivesFirst e g
  pub kind_is : kind ≡ kind_h first.frame.msg
  pub named : tag ≡ file_of_h first.frame.msg
  pub changed : change ≡ change_between e.term (frame_touch e.term first.frame.msg) g.term

-- the oldest event, which has this number and names this file, acted, and made this change
pub record ActedFirst (e : PlainTermEndpoint) (number : ℕ) (tag : Option ℕ) (change : Change) (g : PlainTermEndpoint) : Type 0 where
  pub first : ActsFirst e g
  pub composed : List Tmesg
  pub acted : first.acted ≡ become.Done composed
  pub number_is : number ≡ oldest e
  pub named : tag ≡ option_and_then file_of (slice_get e.term.held 0)
  pub changed : change ≡ change_between e.term (oldest_touch e.term) g.term

-- the oldest event, which has this number, was refused for this reason
pub record RefusedFirst (e : PlainTermEndpoint) (number : ℕ) (why : Refusal) (g : PlainTermEndpoint) : Type 0 where
  pub first : ActsFirst e g
  pub refused : first.acted ≡ become.Refused why
  pub number_is : number ≡ oldest e

-- what a step does with the oldest frame
abbrev pub ReceivesStep : PlainTermEndpoint → Result TermStep (EndpointFault TermStop) → PlainTermEndpoint → Type 0
ReceivesStep e (Ok (Received kind tag change)) g = ReceivedFirst e kind tag change g
ReceivesStep e (Ok Idle) g = ⊥
ReceivesStep e (Ok Locked) g = ⊥
ReceivesStep e (Ok Wrote) g = ⊥
ReceivesStep e (Ok (Acted number tag change)) g = ⊥
ReceivesStep e (Ok (Refused number why)) g = ⊥
ReceivesStep e (Err why) g = Receives e (Err why) g

-- what a step does with the oldest event
abbrev pub DecidesStep : PlainTermEndpoint → Result TermStep (EndpointFault TermStop) → PlainTermEndpoint → Type 0
DecidesStep e (Ok Idle) g = (act_of e.term ≡ Ok (e.term, become.Idle)) × (g ≡ e)
DecidesStep e (Ok Locked) g = (act_of e.term ≡ Ok (e.term, become.Locked)) × (g ≡ e)
DecidesStep e (Ok Wrote) g = ⊥
DecidesStep e (Ok (Received kind tag change)) g = ⊥
DecidesStep e (Ok (Acted number tag change)) g = ActedFirst e number tag change g
DecidesStep e (Ok (Refused number why)) g = RefusedFirst e number why g
DecidesStep e (Err why) g = Acts e (Err why) g

-- it goes on, and no message is left over to be written
abbrev pub IsWritten : PlainTermEndpoint → Type 0
IsWritten e = (e.stop ≡ None) × (e.unwritten ≡ [])

-- it stops for this reason: at the stream's fault after all frames; at the oldest frame, which the terminal refuses; or at the oldest
-- event, whose messages can't be counted
abbrev pub StopsBy : PlainTermEndpoint → TermStop → PlainTermEndpoint → Type 0
StopsBy e (stop.Stream why) g = (e.waiting ≡ []) × (e.broken_by ≡ Some why) × (g ≡ stopped e (stop.Stream why))
StopsBy e (stop.Refused why) g =
    ((frame : HFrame) × (rest : List HFrame)
    × (e.waiting ≡ frame ∷ rest) × (take_of e.term frame ≡ Err why) × (g ≡ stopped e (stop.Refused why)))
    ⊎ (IsDone e × (act_of e.term ≡ Err why) × (g ≡ stopped e (stop.Refused why)))

-- what one step answers, and how it leaves the end: an error but for the one at which it stops leaves all as it was
abbrev pub Steps : PlainTermEndpoint → Result TermStep (EndpointFault TermStop) → PlainTermEndpoint → Type 0
Steps e (Ok Idle) g = IsReady e × (act_of e.term ≡ Ok (e.term, become.Idle)) × (g ≡ e)
Steps e (Ok Locked) g = IsReady e × (act_of e.term ≡ Ok (e.term, become.Locked)) × (g ≡ e)
Steps e (Ok Wrote) g = (e.stop ≡ None) × (0 < length e.unwritten) × (g ≡ written e)
Steps e (Ok (Received kind tag change)) g = IsWritten e × ReceivedFirst e kind tag change g
Steps e (Ok (Acted number tag change)) g = IsReady e × ActedFirst e number tag change g
Steps e (Ok (Refused number why)) g = IsReady e × RefusedFirst e number why g
Steps e (Err fault.Unfinished) g = (e.stop ≡ None) × (0 < undone e) × (g ≡ e)
Steps e (Err (fault.Stopped why)) g = ((e.stop ≡ Some why) × (g ≡ e)) ⊎ (IsWritten e × StopsBy e why g)
Steps e (Err fault.OutOfMemory) g = ⊥
Steps e (Err fault.CountFull) g = ⊥

-- ## The law

-- the step had nothing to do, or a lock held it back
abbrev pub IsAtRest : TermStep → Type 0
IsAtRest Idle = Unit {0}
IsAtRest Locked = Unit {0}
IsAtRest Wrote = ⊥
IsAtRest (Received kind tag change) = ⊥
IsAtRest (Acted number tag change) = ⊥
IsAtRest (Refused number why) = ⊥

-- so many steps did something, and one after them had nothing to do, or could not do it
abbrev pub GoesBySteps : ℕ → PlainTermEndpoint → Answer → PlainTermEndpoint → Type 0
GoesBySteps zero e (Ok done) g = (step : TermStep) × IsAtRest step × Steps e (Ok step) g
GoesBySteps zero e (Err why) g = Steps e (Err why) g
GoesBySteps (suc n) e answer g =
    (step : TermStep) × (k : PlainTermEndpoint) × (IsAtRest step → ⊥) × Steps e (Ok step) k × GoesBySteps n k answer g

-- where no event can act, to bring a piece and then to go on by steps to their end is to feed it
abbrev pub TermStepsFeed : Type 0
TermStepsFeed =
    (n : ℕ) (piece : List ℕ) (answer : Answer) (e k g : PlainTermEndpoint)
    → IsQuiet e.term → BringsIn e piece (Ok tt) k → GoesBySteps n k answer g → Feeds e piece answer g
