-- A terminal end over whose rasps edits wait, and what its calls do.
use Rattle.std.specs.Prelude.{◌≡◌, ◌≢◌, ◌≤◌, ℕ, Bool, true, false, if◌then◌else◌, ◌==◌, List, [], ◌∷◌, Option, Some, None, Result, Ok, Err}
use Rattle.sam_runes.specs.Checks.{first_of_checks}
use Rattle.sam_runes.specs.Slots.{Slots, slot}
use Rattle.sam_runes.specs.Texts.{max_runes}
use Rattle.sam_runes.specs.declared.edit.Edit.{Edit}
use Rattle.sam_mesg.specs.declared.hmesg.HFrame.{HFrame}
use Rattle.sam_pending.specs.Cells.{Cell, Change, IsMade, shown_of}
use Rattle.sam_pending.specs.Groups.{IsMadeBy}
use Rattle.sam_pending.specs.Layers.{Layer, next_edit, next_made, rasp_length}
use Rattle.sam_term.specs.Term.{PlainTerminal, event_checks, rasp_at}
use Rattle.sam_term.specs.declared.event.UserEvent.{UserEvent}
use Rattle.sam_term.specs.declared.event.UserEvent.TheVariants as event
use Rattle.sam_endpoint.specs.TermEndpoints.{PlainTermEndpoint}
use Rattle.sam_endpoint.specs.declared.fault.EndpointFault.{EndpointFault}
use Rattle.sam_endpoint.specs.declared.fault.TermStop.{TermStop}
use Rattle.sam_endpoint.specs.declared.step.TermStep.{TermStep}
use Rattle.sam_endpoint.specs.declared.step.TermStep.TheVariants.{Idle, Locked, Wrote, Received, Acted, Refused}
use Rattle.sam_overlay.specs.Effects.{Effect, Stays, cells_after, effect, plan_at, plan_of}
use Rattle.sam_overlay.specs.Outcomes.{Follows, IsOverRasp, Leads, cells_in}
use Rattle.sam_overlay.specs.declared.frame_plan.FilePlan.{FilePlan}
use Rattle.sam_overlay.specs.declared.outcome.Outcome.{Outcome}
use Rattle.sam_overlay.specs.declared.shown_change.Told.{Told}
use Rattle.sam_overlay.specs.declared.shown_change.Told.TheVariants as told
use Rattle.sam_overlay.specs.declared.shown_change.OverlayStep.{OverlayStep}

-- ## What is shown

-- the cells of file f, over its rasp at this terminal
abbrev pub cells_of_file : PlainTerminal → Slots Layer → ℕ → List Cell
cells_of_file t ls f = cells_in (rasp_at t f) (slot ls f)

-- each layer is over the rasp of its file
abbrev pub AreOver : PlainTerminal → Slots Layer → Type 0
AreOver t ls = (f : ℕ) → IsOverRasp (rasp_at t f) (slot ls f)

-- ## Events

-- the event leaves each text as it is, but for that of the command file, over which nothing waits
abbrev pub is_request : UserEvent → Bool
is_request (event.Typed f s) = f == 0
is_request (event.Cut f) = f == 0
is_request (event.Paste f) = f == 0
is_request (event.Edit f p q s) = false
is_request (event.Select f p q) = true
is_request (event.Snarf f) = true
is_request (event.Look f) = true
is_request (event.Search f) = true
is_request (event.Send f) = true
is_request (event.Dclick f p) = true
is_request (event.Scroll f n) = true
is_request (event.View f p n) = true
is_request (event.Load f p n) = true
is_request (event.Open f) = true
is_request (event.Close f) = true
is_request (event.Write f) = true
is_request (event.Work f) = true
is_request event.OpenCmd = true
is_request event.New = true
is_request event.Exit = true
is_request (event.Check f) = true
is_request event.GetSnarf = true
is_request (event.SetSnarf s) = true
is_request (event.Version v) = true
is_request event.Flush = true

abbrev pub AreRequests : List UserEvent → Type 0
AreRequests [] = Unit {0}
AreRequests (e ∷ es) = (is_request e ≡ true) × AreRequests es

-- an edit of file f as an event
abbrev pub edit_event : ℕ → Edit → UserEvent
edit_event f e = event.Edit f e.p e.q e.text

-- the next edit of what waits over file f, of the groups up to a limit, was put: it is the one event that is held, and nothing stands
-- against it
pub record IsPutting (e : PlainTermEndpoint) (ls : Slots Layer) (m : Option ℕ) (f : ℕ) : Type 0 where
  pub layer : Layer
  pub edit : Edit
  pub waits : slot ls f ≡ Some layer
  pub next : next_edit m layer ≡ Some edit
  pub room : rasp_length (next_made m layer) ≤ max_runes
  pub held : e.term.held ≡ edit_event f edit ∷ []
  pub waiting : e.waiting ≡ []
  pub unwritten : e.unwritten ≡ []
  pub free : first_of_checks (event_checks e.term (edit_event f edit)) ≡ None

-- ## Steps

-- what is told of file f
abbrev pub told_at : OverlayStep → ℕ → Told
told_at x f = if x.tag == f then x.told else told.Nothing

-- the step of the terminal end in it
abbrev pub end_step : Result OverlayStep (EndpointFault TermStop) → Result TermStep (EndpointFault TermStop)
end_step (Ok x) = Ok x.step
end_step (Err why) = Err why

-- the step received a frame
abbrev pub is_received : TermStep → Bool
is_received (Received kind tag change) = true
is_received Idle = false
is_received Locked = false
is_received Wrote = false
is_received (Acted number tag change) = false
is_received (Refused number why) = false

-- what the oldest of these frames does to file f
abbrev pub first_effect : List HFrame → ℕ → Effect
first_effect [] f = Stays
first_effect (frame ∷ frames) f = effect f frame.msg

-- what a step does to file f that is not of an edit which waited: only a frame changes a text but that of the command file
abbrev pub step_effect : PlainTermEndpoint → TermStep → ℕ → Effect
step_effect e step f = if is_received step then first_effect e.waiting f else Stays

-- what the oldest of these frames will do to what waits: the plan is that of the frame, and the outcome follows from it
pub record IsNext (frames : List HFrame) (ls : Slots Layer) (x : FilePlan × Outcome) : Type 0 where
  pub planned : (f : ℕ) → plan_at f x.0 ≡ plan_of (first_effect frames f)
  pub follows : Follows (slot ls x.0.tag) x.0.plan x.1

-- by a step of the terminal end that was not of an edit which waited, the cells of each file went as its frame says, and what is told leads
-- to what is shown
pub record Stepped (e : PlainTermEndpoint) (ls : Slots Layer) (x : OverlayStep) (g : PlainTermEndpoint) (ks : Slots Layer) : Type 0 where
  pub over : AreOver g.term ks
  pub command : slot ks 0 ≡ None
  pub requests : AreRequests g.term.held
  pub cells : (f : ℕ) → (f ≡ 0 → is_received x.step ≡ true)
      → cells_of_file g.term ks f ≡ cells_after (step_effect e x.step f) (cells_of_file e.term ls f)
  pub told : (f : ℕ) → Leads (told_at x f) (shown_of (cells_of_file e.term ls f)) (shown_of (cells_of_file g.term ks f))

-- by a step the edit that was put, of the groups up to a limit, came to the rasp of file f; nothing that is shown moved
pub record Brought (e : PlainTermEndpoint) (ls : Slots Layer) (m : Option ℕ) (f : ℕ) (g : PlainTermEndpoint) (ks : Slots Layer)
    : Type 0 where
  pub change : Change
  pub made : IsMade (cells_of_file e.term ls f) change (cells_of_file g.term ks f)
  pub by : (b : ℕ) → m ≡ Some b → IsMadeBy b (cells_of_file e.term ls f) change (cells_of_file g.term ks f)
  pub others : (h : ℕ) → h ≢ f → cells_of_file g.term ks h ≡ cells_of_file e.term ls h
  pub over : AreOver g.term ks
  pub command : slot ks 0 ≡ None
  pub requests : AreRequests g.term.held

-- the end is as it was, but that it may have stopped
abbrev pub StopsOnly : PlainTermEndpoint → PlainTermEndpoint → Type 0
StopsOnly e g = g ≡ record e { stop = g.stop }
