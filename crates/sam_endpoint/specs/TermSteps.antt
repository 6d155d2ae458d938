-- What the steps of a terminal end do, of which its calls are made.
use Rattle.std.specs.Prelude.{◌≡◌, ℕ, ◌+◌, ◌-◌, ◌^◌, ◌<◌, ◌≤◌, ◌⊎◌, List, [], ◌∷◌, ◌++◌, length, Bool, true, false, Some, None, Result, Ok, Err, IsOk}
use Rattle.sam_mesg.specs.declared.tmesg.Tmesg.{Tmesg}
use Rattle.sam_mesg.specs.declared.hmesg.HFrame.{HFrame}
use Rattle.sam_frame.specs.Direction.{host, terminal}
use Rattle.sam_frame.specs.Framing.{HasRoom}
use Rattle.sam_frame.specs.Stream.{CanEncode, stream_of}
use Rattle.sam_term.specs.Fitting.{composed_in}
use Rattle.sam_term.specs.Term.{PlainTerminal, act_of, flush_of, take_of}
use Rattle.sam_term.specs.declared.event.Acted.{Acted}
use Rattle.sam_term.specs.declared.event.Acted.TheVariants as become
use Rattle.sam_term.specs.declared.fault.TermFault.{TermFault}
use Rattle.sam_term.specs.declared.event.UserEvent.{UserEvent}
use Rattle.sam_endpoint.specs.declared.fault.TermStop.{TermStop}
use Rattle.sam_endpoint.specs.declared.fault.TermStop.TheVariants as stop
use Rattle.sam_endpoint.specs.declared.fault.EndpointFault.{EndpointFault}
use Rattle.sam_endpoint.specs.declared.fault.EndpointFault.TheVariants as fault
use Rattle.sam_term.specs.declared.fault.TermFault.TheVariants as refusal
use Rattle.sam_endpoint.specs.declared.step.Decision.{Decision}
use Rattle.sam_endpoint.specs.declared.step.Decision.TheVariants as decision
use Rattle.sam_endpoint.specs.Changes.{act_touch, frame_touch, kept_after}
use Rattle.sam_endpoint.specs.Streams.{FitMessages}
use Rattle.sam_endpoint.specs.TermEndpoints.{PlainTermEndpoint, GoesOn, IsIdle, IsQuiet, IsDecided, Moves, TakesIn, oldest, refusals_from, undone, with_event}

-- what holds of every terminal end
pub record IsSound (e : PlainTermEndpoint) : Type 0 where
  pub waiting : CanEncode host e.waiting
  pub unwritten : CanEncode terminal e.unwritten
  pub counted : length e.term.held ≤ e.events
  pub stamped : e.seen ≤ e.term.sent
  pub reads : e.broken_by ≡ None → e.framer.failed ≡ false

abbrev pub Answer : Type 0
Answer = Result (Unit {0}) (EndpointFault TermStop)

-- what was composed is in the pending bytes
abbrev pub written : PlainTermEndpoint → PlainTermEndpoint
written e = record e { unwritten = []; pending_bytes = e.pending_bytes ++ stream_of terminal e.unwritten }

-- it has stopped for this reason
abbrev pub stopped : PlainTermEndpoint → TermStop → PlainTermEndpoint
stopped e why = record e { stop = Some why }

-- it has stopped, if that is what the fault says
abbrev pub stopped_by : PlainTermEndpoint → EndpointFault TermStop → PlainTermEndpoint
stopped_by e (fault.Stopped why) = stopped e why
stopped_by e fault.OutOfMemory = e
stopped_by e fault.Unfinished = e
stopped_by e fault.CountFull = e

-- out of memory leaves work unfinished, and any other fault of the terminal stops the end
abbrev pub end_fault : TermFault → EndpointFault TermStop
end_fault refusal.OutOfMemory = fault.Unfinished
end_fault refusal.FromTheFuture = fault.Stopped (stop.Refused refusal.FromTheFuture)
end_fault refusal.NoFile = fault.Stopped (stop.Refused refusal.NoFile)
end_fault refusal.NotOpen = fault.Stopped (stop.Refused refusal.NotOpen)
end_fault refusal.AlreadyBound = fault.Stopped (stop.Refused refusal.AlreadyBound)
end_fault refusal.BadPosition = fault.Stopped (stop.Refused refusal.BadPosition)
end_fault refusal.TooLong = fault.Stopped (stop.Refused refusal.TooLong)
end_fault refusal.LockNotHeld = fault.Stopped (stop.Refused refusal.LockNotHeld)
end_fault refusal.CountFull = fault.Stopped (stop.Refused refusal.CountFull)

-- a call of the terminal answers as the definition does, or refuses as it does, or is short of memory; without an answer it changes nothing
abbrev pub Tries : {A : Type 0} → PlainTerminal → Result (PlainTerminal × A) TermFault
    → Result A (EndpointFault TermStop) → PlainTerminal → Type 0
Tries t answer (Ok x) u = answer ≡ Ok (u, x)
Tries t answer (Err fault.Unfinished) u = u ≡ t
Tries t answer (Err (fault.Stopped (stop.Refused why))) u = (answer ≡ Err why) × (u ≡ t)
Tries t answer (Err (fault.Stopped (stop.Stream why))) u = ⊥
Tries t answer (Err fault.OutOfMemory) u = ⊥
Tries t answer (Err fault.CountFull) u = ⊥

-- what was composed is written, or all stays
abbrev pub Writes : PlainTermEndpoint → Answer → PlainTermEndpoint → Type 0
Writes e (Ok done) g = g ≡ written e
Writes e (Err fault.Unfinished) g = (0 < length e.unwritten) × (g ≡ e)
Writes e (Err fault.OutOfMemory) g = ⊥
Writes e (Err fault.CountFull) g = ⊥
Writes e (Err (fault.Stopped why)) g = ⊥

-- the oldest frame that waits is received
pub record ReceivesFirst (e : PlainTermEndpoint) (g : PlainTermEndpoint) : Type 0 where
  pub frame : HFrame
  pub rest : List HFrame
  pub term : PlainTerminal
  pub composed : List Tmesg
  pub waited : e.waiting ≡ frame ∷ rest
  pub taken : take_of e.term frame ≡ Ok (term, composed)
  pub composed_fit : FitMessages composed
  pub after : g ≡ record e {
    term = term;
    waiting = rest;
    unwritten = composed;
    seen = frame.seen;
    kept = kept_after e.kept (frame_touch e.term frame.msg);
  }

-- it is received, or none waits, or all stays, or the terminal refuses it
abbrev pub Receives : PlainTermEndpoint → Result Bool (EndpointFault TermStop) → PlainTermEndpoint → Type 0
Receives e (Ok true) g = ReceivesFirst e g
Receives e (Ok false) g = (e.waiting ≡ []) × (g ≡ e)
Receives e (Err fault.Unfinished) g = (0 < length e.waiting) × (g ≡ e)
Receives e (Err (fault.Stopped (stop.Refused why))) g =
    (frame : HFrame) × (rest : List HFrame) × (e.waiting ≡ frame ∷ rest) × (take_of e.term frame ≡ Err why)
    × (g ≡ stopped e (stop.Refused why))
Receives e (Err (fault.Stopped (stop.Stream why))) g = ⊥
Receives e (Err fault.OutOfMemory) g = ⊥
Receives e (Err fault.CountFull) g = ⊥

-- the oldest event is done or refused, and is told if refused
pub record ActsFirst (e : PlainTermEndpoint) (g : PlainTermEndpoint) : Type 0 where
  pub term : PlainTerminal
  pub acted : Acted
  pub acts : act_of e.term ≡ Ok (term, acted)
  pub decided : IsDecided acted
  pub composed_fit : FitMessages (composed_in acted)
  pub after : g ≡ record e {
    term = term;
    unwritten = composed_in acted;
    refusals = e.refusals ++ refusals_from (oldest e) (acted ∷ []);
    kept = kept_after e.kept (act_touch e.term acted);
  }
  pub next : oldest g ≡ oldest e + 1
  pub fewer : length g.term.held + 1 ≡ length e.term.held

-- it is, or no event can act, or all stays, or it can't be counted
abbrev pub Acts : PlainTermEndpoint → Result Bool (EndpointFault TermStop) → PlainTermEndpoint → Type 0
Acts e (Ok true) g = ActsFirst e g
Acts e (Ok false) g = IsQuiet e.term × (g ≡ e)
Acts e (Err fault.Unfinished) g = (0 < length e.term.held) × (g ≡ e)
Acts e (Err (fault.Stopped (stop.Refused why))) g = (act_of e.term ≡ Err why) × (g ≡ stopped e (stop.Refused why))
Acts e (Err (fault.Stopped (stop.Stream why))) g = ⊥
Acts e (Err fault.OutOfMemory) g = ⊥
Acts e (Err fault.CountFull) g = ⊥

-- what became of the oldest event; or all stays, or it can't be counted
abbrev pub Decides : PlainTermEndpoint → Result Decision (EndpointFault TermStop) → PlainTermEndpoint → Type 0
Decides e (Ok decision.Idle) g = (act_of e.term ≡ Ok (e.term, become.Idle)) × (g ≡ e)
Decides e (Ok decision.Locked) g = (act_of e.term ≡ Ok (e.term, become.Locked)) × (g ≡ e)
Decides e (Ok decision.Acted) g = (first : ActsFirst e g) × (ms : List Tmesg) × (first.acted ≡ become.Done ms)
Decides e (Ok (decision.Refused why)) g = (first : ActsFirst e g) × (first.acted ≡ become.Refused why)
Decides e (Err why) g = Acts e (Err why) g

-- it stops where the stream shows a fault, else it stays
abbrev pub Ends : PlainTermEndpoint → Answer → PlainTermEndpoint → Type 0
Ends e (Ok done) g = (e.broken_by ≡ None) × (g ≡ e)
Ends e (Err (fault.Stopped (stop.Stream why))) g = (e.broken_by ≡ Some why) × (g ≡ stopped e (stop.Stream why))
Ends e (Err (fault.Stopped (stop.Refused why))) g = ⊥
Ends e (Err fault.Unfinished) g = ⊥
Ends e (Err fault.OutOfMemory) g = ⊥
Ends e (Err fault.CountFull) g = ⊥

-- the frames that waited are received, and their answers are written
abbrev pub ReceivesAll : PlainTermEndpoint → Answer → PlainTermEndpoint → Type 0
ReceivesAll e (Ok done) g = Moves e e.waiting [] g × IsIdle g × (oldest g ≡ oldest e) × (g.stop ≡ None)
ReceivesAll e (Err fault.Unfinished) g = (frames : List HFrame) × Moves e frames [] g × (g.stop ≡ None) × (0 < undone g)
ReceivesAll e (Err (fault.Stopped (stop.Refused why))) g =
    (frames : List HFrame) × (frame : HFrame) × (rest : List HFrame)
    × Moves e frames [] g × (g.waiting ≡ frame ∷ rest) × (take_of g.term frame ≡ Err why)
    × (g.unwritten ≡ []) × (g.stop ≡ Some (stop.Refused why))
ReceivesAll e (Err (fault.Stopped (stop.Stream why))) g = ⊥
ReceivesAll e (Err fault.OutOfMemory) g = ⊥
ReceivesAll e (Err fault.CountFull) g = ⊥

-- events act while one can, and what they compose is written
abbrev pub ActsAll : PlainTermEndpoint → Answer → PlainTermEndpoint → Type 0
ActsAll e (Ok done) g = (acts : List Acted) × Moves e [] acts g × IsIdle g × IsQuiet g.term × (g.stop ≡ None)
ActsAll e (Err fault.Unfinished) g = (acts : List Acted) × Moves e [] acts g × (g.stop ≡ None) × (0 < undone g)
ActsAll e (Err (fault.Stopped (stop.Refused why))) g =
    (acts : List Acted) × Moves e [] acts g × IsIdle g × (act_of g.term ≡ Err why) × (g.stop ≡ Some (stop.Refused why))
ActsAll e (Err (fault.Stopped (stop.Stream why))) g = ⊥
ActsAll e (Err fault.OutOfMemory) g = ⊥
ActsAll e (Err fault.CountFull) g = ⊥

-- an end that has stopped says why again; else it goes on with what waits, and what the call brings is not taken if memory is refused
abbrev pub Resumes : PlainTermEndpoint → Answer → PlainTermEndpoint → Type 0
Resumes e (Ok done) g = (e.stop ≡ None) × GoesOn e (Ok done) g
Resumes e (Err fault.OutOfMemory) g = (e.stop ≡ None) × GoesOn e (Err fault.Unfinished) g
Resumes e (Err (fault.Stopped why)) g = ((e.stop ≡ Some why) × (g ≡ e)) ⊎ ((e.stop ≡ None) × GoesOn e (Err (fault.Stopped why)) g)
Resumes e (Err fault.Unfinished) g = ⊥
Resumes e (Err fault.CountFull) g = ⊥

-- what a framer gives is taken in, or nothing is
abbrev pub Gains : PlainTermEndpoint → List ℕ → Answer → PlainTermEndpoint → Type 0
Gains e piece (Ok done) g = TakesIn e piece g
Gains e piece (Err fault.OutOfMemory) g = HasRoom e.framer piece × (g ≡ e)
Gains e piece (Err fault.CountFull) g = (2 ^ 64 ≤ e.framer.offset + length e.framer.bytes + length piece) × (g ≡ e)
Gains e piece (Err fault.Unfinished) g = ⊥
Gains e piece (Err (fault.Stopped why)) g = ⊥

-- the event is held after the others, or all stays
abbrev pub Holds : PlainTermEndpoint → UserEvent → Answer → PlainTermEndpoint → Type 0
Holds e event (Ok done) g = g ≡ with_event e event
Holds e event (Err fault.OutOfMemory) g = (e.events < 2 ^ 64 - 1) × (g ≡ e)
Holds e event (Err fault.CountFull) g = (e.events ≡ 2 ^ 64 - 1) × (g ≡ e)
Holds e event (Err fault.Unfinished) g = ⊥
Holds e event (Err (fault.Stopped why)) g = ⊥

-- the unsent runes are composed, or all stays, or they can't be counted
abbrev pub Composes : PlainTermEndpoint → Answer → PlainTermEndpoint → Type 0
Composes e (Ok done) g =
    (term : PlainTerminal) × (composed : List Tmesg)
    × (flush_of e.term ≡ Ok (term, composed)) × FitMessages composed × (g ≡ record e { term = term; unwritten = composed })
Composes e (Err fault.OutOfMemory) g = IsOk (flush_of e.term) × (g ≡ e)
Composes e (Err (fault.Stopped (stop.Refused why))) g = (flush_of e.term ≡ Err why) × (g ≡ stopped e (stop.Refused why))
Composes e (Err (fault.Stopped (stop.Stream why))) g = ⊥
Composes e (Err fault.Unfinished) g = ⊥
Composes e (Err fault.CountFull) g = ⊥
