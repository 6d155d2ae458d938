-- A run of calls of a terminal end, and what it comes to.
use Rattle.std.specs.Prelude.{◌≡◌, ◌⊎◌, ℕ, List, [], ◌∷◌, ◌++◌, drop, flat_map, length, slice_get, Option, Some, option_map, option_to_list, Result, Ok, Err}
use Rattle.sam_mesg.specs.declared.tmesg.Tmesg.{Tmesg}
use Rattle.sam_mesg.specs.declared.hmesg.HFrame.{HFrame}
use Rattle.sam_frame.specs.Direction.{host, terminal}
use Rattle.sam_frame.specs.Stream.{stream_of}
use Rattle.sam_frame.specs.Reading.{IsStream}
use Rattle.sam_term.specs.Fitting.{composed_in}
use Rattle.sam_term.specs.Term.{PlainTerminal, new_terminal, act_of, flush_of, take_of}
use Rattle.sam_term.specs.declared.event.Acted.{Acted}
use Rattle.sam_term.specs.declared.event.UserEvent.{UserEvent}
use Rattle.sam_term.specs.declared.fault.Refusal.{Refusal}
use Rattle.sam_endpoint.specs.declared.changes.Kept.{Kept}
use Rattle.sam_endpoint.specs.declared.fault.TermStop.{TermStop}
use Rattle.sam_endpoint.specs.declared.fault.TermStop.TheVariants as stop
use Rattle.sam_endpoint.specs.declared.fault.EndpointFault.{EndpointFault}
use Rattle.sam_endpoint.specs.declared.fault.EndpointFault.TheVariants as fault
use Rattle.sam_endpoint.specs.declared.step.BringFault.{BringFault}
use Rattle.sam_endpoint.specs.declared.step.TermStep.{TermStep}
use Rattle.sam_endpoint.specs.Streams.{FitMessages, GoesOnAfter, if_brought, if_taken, mesg_fault}
use Rattle.sam_endpoint.specs.TermEndpoints.{PlainTermEndpoint, Feeds, Flushes, IsDecided, IsDone, IsIdle, Puts, new_term_endpoint, refusals_from}
use Rattle.sam_endpoint.specs.TermStepping.{BringsEvent, BringsIn, Steps}
use Rattle.sam_endpoint.specs.TermSteps.{Answer}

-- ## What a terminal does

pub data Step : Type 0 where
  Received : HFrame → Step  -- it received this frame
  Held : UserEvent → Step  -- it holds this event after the others
  Decided : Acted → Step  -- its oldest event acted or was refused
  Sent : Step  -- it composed its unsent runes

-- these steps lead from one terminal to the other, and compose these messages
abbrev pub Leads : PlainTerminal → List Step → List Tmesg → PlainTerminal → Type 0
Leads t [] composed u = (composed ≡ []) × (u ≡ t)
Leads t (Received frame ∷ steps) composed u =
    (v : PlainTerminal) × (first : List Tmesg) × (rest : List Tmesg)
    × (take_of t frame ≡ Ok (v, first)) × (composed ≡ first ++ rest) × Leads v steps rest u
Leads t (Held event ∷ steps) composed u = Leads (record t { held = t.held ++ event ∷ [] }) steps composed u
Leads t (Decided acted ∷ steps) composed u =
    (v : PlainTerminal) × (rest : List Tmesg)
    × (act_of t ≡ Ok (v, acted)) × IsDecided acted × (composed ≡ composed_in acted ++ rest) × Leads v steps rest u
Leads t (Sent ∷ steps) composed u =
    (v : PlainTerminal) × (first : List Tmesg) × (rest : List Tmesg)
    × (flush_of t ≡ Ok (v, first)) × (composed ≡ first ++ rest) × Leads v steps rest u

abbrev pub frame_in : Step → List HFrame
frame_in (Received frame) = frame ∷ []
frame_in (Held event) = []
frame_in (Decided acted) = []
frame_in Sent = []

abbrev pub event_in : Step → List UserEvent
event_in (Received frame) = []
event_in (Held event) = event ∷ []
event_in (Decided acted) = []
event_in Sent = []

abbrev pub act_in : Step → List Acted
act_in (Received frame) = []
act_in (Held event) = []
act_in (Decided acted) = acted ∷ []
act_in Sent = []

-- the frames that were received, in order
abbrev pub frames_in : List Step → List HFrame
frames_in steps = flat_map frame_in steps

-- the events that were held, in order
abbrev pub events_in : List Step → List UserEvent
events_in steps = flat_map event_in steps

-- what became of the events, in order
abbrev pub acts_in : List Step → List Acted
acts_in steps = flat_map act_in steps

-- ## Calls

pub data Call : Type 0 where
  Feed : List ℕ → Answer → Call  -- a piece was fed
  Bring : List ℕ → Result (Unit {0}) (BringFault TermStop) → Call  -- a piece was brought
  BringEvent : UserEvent → Result (Unit {0}) (BringFault TermStop) → Call  -- an event was brought
  MakeStep : Result TermStep (EndpointFault TermStop) → Call  -- the end went on by one step
  Put : UserEvent → Answer → Call  -- the user did something
  Flush : Answer → Call
  TakeOut : List ℕ → Call  -- these bytes were taken out
  NextRefusal : Option (ℕ × Refusal) → Call  -- the next refusal was asked for, and this one was handed out, or none
  Changed : List Kept → Call  -- what changed was asked for, and from then on so much is kept

-- these calls lead from one end to the other, and at none of them does it stop
abbrev pub Runs : PlainTermEndpoint → List Call → PlainTermEndpoint → Type 0
Runs e [] g = g ≡ e
Runs e (Feed piece answer ∷ calls) g = (k : PlainTermEndpoint) × Feeds e piece answer k × GoesOnAfter answer × Runs k calls g
Runs e (Bring piece result ∷ calls) g = (k : PlainTermEndpoint) × BringsIn e piece result k × Runs k calls g
Runs e (BringEvent event result ∷ calls) g = (k : PlainTermEndpoint) × BringsEvent e event result k × Runs k calls g
Runs e (MakeStep result ∷ calls) g = (k : PlainTermEndpoint) × Steps e result k × GoesOnAfter result × Runs k calls g
Runs e (Put event answer ∷ calls) g = (k : PlainTermEndpoint) × Puts e event answer k × GoesOnAfter answer × Runs k calls g
Runs e (Flush answer ∷ calls) g = (k : PlainTermEndpoint) × Flushes e answer k × GoesOnAfter answer × Runs k calls g
Runs e (TakeOut bytes ∷ calls) g = (rest : List ℕ) × (e.pending_bytes ≡ bytes ++ rest) × Runs (record e { pending_bytes = rest }) calls g
Runs e (NextRefusal told ∷ calls) g = (told ≡ slice_get e.refusals 0) × Runs (record e { refusals = drop 1 e.refusals }) calls g
Runs e (Changed kept ∷ calls) g = Runs (record e { kept = kept }) calls g

-- this call stops the end for this reason
abbrev pub Stops : PlainTermEndpoint → Call → TermStop → PlainTermEndpoint → Type 0
Stops e (Feed piece answer) why g = Feeds e piece answer g × (answer ≡ Err (fault.Stopped why))
Stops e (Bring piece result) why g = ⊥
Stops e (BringEvent event result) why g = ⊥
Stops e (MakeStep result) why g = Steps e result g × (result ≡ Err (fault.Stopped why))
Stops e (Put event answer) why g = Puts e event answer g × (answer ≡ Err (fault.Stopped why))
Stops e (Flush answer) why g = Flushes e answer g × (answer ≡ Err (fault.Stopped why))
Stops e (TakeOut bytes) why g = ⊥
Stops e (NextRefusal told) why g = ⊥
Stops e (Changed kept) why g = ⊥

-- the bytes that came in with the call
abbrev pub came_in : Call → List ℕ
came_in (Feed piece answer) = if_taken answer piece
came_in (Bring piece result) = if_brought result piece
came_in (BringEvent event result) = []
came_in (MakeStep result) = []
came_in (Put event answer) = []
came_in (Flush answer) = []
came_in (TakeOut bytes) = []
came_in (NextRefusal told) = []
came_in (Changed kept) = []

-- the event that came in with the call
abbrev pub put_in : Call → List UserEvent
put_in (Feed piece answer) = []
put_in (Bring piece result) = []
put_in (BringEvent event result) = if_brought result (event ∷ [])
put_in (MakeStep result) = []
put_in (Put event answer) = if_taken answer (event ∷ [])
put_in (Flush answer) = []
put_in (TakeOut bytes) = []
put_in (NextRefusal told) = []
put_in (Changed kept) = []

-- the bytes that the call took out
abbrev pub went_out : Call → List ℕ
went_out (Feed piece answer) = []
went_out (Bring piece result) = []
went_out (BringEvent event result) = []
went_out (MakeStep result) = []
went_out (Put event answer) = []
went_out (Flush answer) = []
went_out (TakeOut bytes) = bytes
went_out (NextRefusal told) = []
went_out (Changed kept) = []

-- the refusal that the call handed out
abbrev pub handed_out : Call → List (ℕ × Refusal)
handed_out (Feed piece answer) = []
handed_out (Bring piece result) = []
handed_out (BringEvent event result) = []
handed_out (MakeStep result) = []
handed_out (Put event answer) = []
handed_out (Flush answer) = []
handed_out (TakeOut bytes) = []
handed_out (NextRefusal told) = option_to_list told
handed_out (Changed kept) = []

-- ## The laws

-- The terminal has done steps. In them it received the first frames of the stream that came in, and the others wait, with what is wrong
-- after them; and it was given these events, in order. All messages that it composed fit, and in order they are what was taken out, what
-- is pending and what is not written yet. All refusals of events, in order, each with the number of its event, are those that were handed
-- out and those that wait to be.
pub record HasDone (stream : List ℕ) (events : List UserEvent) (out : List ℕ) (handed : List (ℕ × Refusal)) (e : PlainTermEndpoint)
    : Type 0 where
  pub steps : List Step
  pub composed : List Tmesg
  pub leads : Leads new_terminal steps composed e.term
  pub composed_fit : FitMessages composed
  pub reads : IsStream host 1 stream (frames_in steps ++ e.waiting) e.framer.bytes (option_map mesg_fault e.broken_by)
  pub given : events_in steps ≡ events
  pub bytes : (out ++ e.pending_bytes) ++ stream_of terminal e.unwritten ≡ stream_of terminal composed
  pub refused : handed ++ e.refusals ≡ refusals_from 1 (acts_in steps)

-- why it has stopped: the stream shows this fault after frames that are all received; or the terminal refuses the oldest that waits; or
-- none waits, and it refuses its oldest event or to compose its unsent runes
abbrev pub HasStopped : PlainTermEndpoint → TermStop → Type 0
HasStopped e (stop.Stream why) = IsIdle e × (e.broken_by ≡ Some why)
HasStopped e (stop.Refused why) =
    ((frame : HFrame) × (rest : List HFrame) × (e.waiting ≡ frame ∷ rest) × (take_of e.term frame ≡ Err why) × (e.unwritten ≡ []))
    ⊎ (IsDone e × ((act_of e.term ≡ Err why) ⊎ (flush_of e.term ≡ Err why)))

abbrev pub RunsLead : Type 0
RunsLead =
    (calls : List Call) (g : PlainTermEndpoint) → Runs new_term_endpoint calls g
    → HasDone (flat_map came_in calls) (flat_map put_in calls) (flat_map went_out calls) (flat_map handed_out calls) g

-- a run, and then a call that stops it; all that this call brought was taken in, or nothing of it
abbrev pub StopsLead : Type 0
StopsLead =
    (calls : List Call) (last : Call) (e g : PlainTermEndpoint) (why : TermStop) → Runs new_term_endpoint calls e → Stops e last why g
    → (taken : List Call) × ((taken ≡ calls ++ last ∷ []) ⊎ (taken ≡ calls))
    × HasDone (flat_map came_in taken) (flat_map put_in taken) (flat_map went_out taken) (flat_map handed_out taken) g
    × HasStopped g why × (g.stop ≡ Some why)

-- the count of events is how many were put and taken: after a call that took one it is that event's number, counted from 1
abbrev pub EventsAreNumbered : Type 0
EventsAreNumbered =
    (calls : List Call) (g : PlainTermEndpoint) → Runs new_term_endpoint calls g → g.events ≡ length (flat_map put_in calls)
