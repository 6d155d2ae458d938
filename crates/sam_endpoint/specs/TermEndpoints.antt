-- A terminal at one end of a stream of bytes each way, and what its calls do.
use Rattle.std.specs.Prelude.{◌≡◌, ℕ, ◌+◌, ◌-◌, ◌^◌, ◌<◌, ◌≤◌, ◌⊎◌, List, [], ◌∷◌, ◌++◌, length, flat_map, true, false, Option, Some, None, Result, Ok, Err, IsOk}
use Rattle.sam_mesg.specs.declared.tmesg.Tmesg.{Tmesg}
use Rattle.sam_mesg.specs.declared.hmesg.HFrame.{HFrame}
use Rattle.sam_frame.specs.Direction.{host, terminal}
use Rattle.sam_frame.specs.Stream.{stream_of}
use Rattle.sam_frame.specs.Framing.{Held, HasRoom, fresh}
use Rattle.sam_term.specs.Fitting.{composed_in}
use Rattle.sam_term.specs.Term.{PlainTerminal, new_terminal, act_of, flush_of, is_open, rasp_at, take_of}
use Rattle.sam_term.specs.declared.event.Acted.{Acted}
use Rattle.sam_term.specs.declared.event.Acted.TheVariants.{Idle, Locked, Done, Refused}
use Rattle.sam_term.specs.declared.fault.Refusal.{Refusal}
use Rattle.sam_term.specs.declared.fault.TermFault.{TermFault}
use Rattle.sam_term.specs.declared.event.UserEvent.{UserEvent}
use Rattle.sam_endpoint.specs.declared.fault.StreamFault.{StreamFault}
use Rattle.sam_endpoint.specs.declared.fault.TermStop.{TermStop}
use Rattle.sam_endpoint.specs.declared.fault.TermStop.TheVariants as stop
use Rattle.sam_endpoint.specs.declared.fault.EndpointFault.{EndpointFault}
use Rattle.sam_endpoint.specs.declared.fault.EndpointFault.TheVariants as fault
use Rattle.sam_endpoint.specs.declared.fault.FinishFault.{FinishFault}
use Rattle.sam_endpoint.specs.declared.fault.FinishFault.TheVariants as ending
use Rattle.sam_endpoint.specs.declared.term_endpoint.TermEndpoint.TheInside.{Inside}
use Rattle.sam_endpoint.specs.declared.changes.Change.{Change}
use Rattle.sam_endpoint.specs.declared.changes.Kept.{Kept}
use Rattle.sam_endpoint.specs.Changes.{asked, change_of, kept_acted, kept_at, kept_received}
use Rattle.sam_endpoint.specs.Streams.{FitMessages, Gives}

pub record PlainTermEndpoint : Type 0 where
  pub framer : Held  -- what came of the host's stream and is no whole frame yet
  pub term : PlainTerminal
  pub waiting : List HFrame  -- frames that came and are not received yet
  pub broken_by : Option StreamFault  -- what is wrong with the stream after them
  pub unwritten : List Tmesg  -- messages that were composed and are not in the pending bytes yet
  pub pending_bytes : List ℕ  -- bytes for the host that were not taken yet
  pub seen : ℕ  -- the stamp of the last frame that was received: how many messages the host had taken; 0 before the first
  pub events : ℕ  -- how many events the user made
  pub refusals : List (ℕ × Refusal)  -- the events that were refused and not asked for yet, each by its number, the first being 1
  pub kept : List Kept  -- how much of each text is as it was when its change was asked for last, by the file's tag
  pub stop : Option TermStop  -- why it has stopped for good

-- the end as contracts see it
abbrev pub shown : Inside → PlainTermEndpoint
shown a =
    record {
      framer = a.duplex.framer;
      term = a.term;
      waiting = a.duplex.waiting;
      broken_by = a.duplex.broken_by;
      unwritten = a.duplex.unwritten;
      pending_bytes = a.duplex.pending_bytes;
      seen = a.seen;
      events = a.events;
      refusals = a.refusals.items;
      kept = a.changes;
      stop = a.duplex.stop;
    }

abbrev pub new_term_endpoint : PlainTermEndpoint
new_term_endpoint =
    record {
      framer = fresh;
      term = new_terminal;
      waiting = [];
      broken_by = None;
      unwritten = [];
      pending_bytes = [];
      seen = 0;
      events = 0;
      refusals = [];
      kept = [];
      stop = None;
    }

-- the terminal receives the frames in order, and composes these messages
abbrev pub Receives : PlainTerminal → List HFrame → List Tmesg → PlainTerminal → Type 0
Receives t [] composed u = (composed ≡ []) × (u ≡ t)
Receives t (frame ∷ frames) composed u =
    (v : PlainTerminal) × (first : List Tmesg) × (rest : List Tmesg)
    × (take_of t frame ≡ Ok (v, first)) × (composed ≡ first ++ rest) × Receives v frames rest u

-- the stamp of the last of the frames, or the one before where there is none
abbrev pub last_stamp : ℕ → List HFrame → ℕ
last_stamp before [] = before
last_stamp before (frame ∷ frames) = last_stamp frame.seen frames

-- how many messages the host has not taken, as far as its frames say
abbrev pub under_way : PlainTermEndpoint → ℕ
under_way e = e.term.sent - e.seen

-- how many bytes of the stream stand before the wrong frame at which an end has stopped that has read so many whole ones
abbrev pub place_of_stop : Option TermStop → ℕ → Option ℕ
place_of_stop None bytes = None
place_of_stop (Some (stop.Stream why)) bytes = Some bytes
place_of_stop (Some (stop.Refused why)) bytes = None

abbrev pub fault_place : PlainTermEndpoint → Option ℕ
fault_place e = place_of_stop e.stop e.framer.offset

-- how many events were done or refused
abbrev pub decided : PlainTermEndpoint → ℕ
decided e = e.events - length e.term.held

-- the event was done or refused, and so is held no longer
abbrev pub IsDecided : Acted → Type 0
IsDecided (Done ms) = Unit {0}
IsDecided (Refused why) = Unit {0}
IsDecided Idle = ⊥
IsDecided Locked = ⊥

-- the terminal acts on its oldest events in turn, and this becomes of them
abbrev pub Acts : PlainTerminal → List Acted → PlainTerminal → Type 0
Acts t [] u = u ≡ t
Acts t (acted ∷ rest) u = (v : PlainTerminal) × (act_of t ≡ Ok (v, acted)) × IsDecided acted × Acts v rest u

-- no event can act: none is held, or a lock holds the oldest back
abbrev pub IsQuiet : PlainTerminal → Type 0
IsQuiet t = (act_of t ≡ Ok (t, Idle)) ⊎ (act_of t ≡ Ok (t, Locked))

abbrev pub composed_by : List Acted → List Tmesg
composed_by acts = flat_map composed_in acts

-- the refusals among what became of events, the first of which has this number
abbrev pub refusals_from : ℕ → List Acted → List (ℕ × Refusal)
refusals_from n [] = []
refusals_from n (Refused why ∷ rest) = (n, why) ∷ refusals_from (n + 1) rest
refusals_from n (Done ms ∷ rest) = refusals_from (n + 1) rest
refusals_from n (Idle ∷ rest) = refusals_from (n + 1) rest
refusals_from n (Locked ∷ rest) = refusals_from (n + 1) rest

-- the number of the oldest event that is held
abbrev pub oldest : PlainTermEndpoint → ℕ
oldest e = (e.events + 1) - length e.term.held

-- of the frames that waited these were received, then events acted, and what was composed is written or waits to be
pub record Moves (e : PlainTermEndpoint) (frames : List HFrame) (acts : List Acted) (g : PlainTermEndpoint) : Type 0 where
  pub composed : List Tmesg
  pub middle : PlainTerminal
  pub receives : Receives e.term frames composed middle
  pub acted : Acts middle acts g.term
  pub composed_fit : FitMessages composed
  pub acted_fit : FitMessages (composed_by acts)
  pub waiting : e.waiting ≡ frames ++ g.waiting
  pub bytes : g.pending_bytes ++ stream_of terminal g.unwritten
      ≡ e.pending_bytes ++ stream_of terminal (e.unwritten ++ composed ++ composed_by acts)
  pub refusals : g.refusals ≡ e.refusals ++ refusals_from (oldest e) acts
  pub seen : g.seen ≡ last_stamp e.seen frames
  pub kept : g.kept ≡ kept_acted middle acts (kept_received e.term frames e.kept)
  pub framer : g.framer ≡ e.framer
  pub events : g.events ≡ e.events
  pub broken_by : g.broken_by ≡ e.broken_by

-- nothing is left to receive or to write
pub record IsIdle (g : PlainTermEndpoint) : Type 0 where
  pub waiting : g.waiting ≡ []
  pub unwritten : g.unwritten ≡ []

-- no event acts before the frames that waited are received
abbrev pub InOrder : List Acted → PlainTermEndpoint → Type 0
InOrder [] g = Unit {0}
InOrder (acted ∷ rest) g = g.waiting ≡ []

-- how many frames and messages wait, and events are held
abbrev pub undone : PlainTermEndpoint → ℕ
undone g = length g.waiting + length g.unwritten + length g.term.held

-- what going on with what waits leads to: all frames are received and events act while one can; memory was refused first, and something
-- still waits or is held; or the end stops, at a frame that the terminal refuses, at the stream's fault after them all, or at an event
-- that can't be counted
abbrev pub GoesOn : PlainTermEndpoint → Result (Unit {0}) (EndpointFault TermStop) → PlainTermEndpoint → Type 0
GoesOn e (Ok done) g = (acts : List Acted) × Moves e e.waiting acts g × IsIdle g × IsQuiet g.term × (e.broken_by ≡ None) × (g.stop ≡ None)
GoesOn e (Err fault.Unfinished) g =
    (frames : List HFrame) × (acts : List Acted) × Moves e frames acts g × InOrder acts g × (g.stop ≡ None) × (0 < undone g)
GoesOn e (Err (fault.Stopped (stop.Stream why))) g =
    Moves e e.waiting [] g × IsIdle g × (e.broken_by ≡ Some why) × (g.stop ≡ Some (stop.Stream why))
GoesOn e (Err (fault.Stopped (stop.Refused why))) g =
    ((frames : List HFrame) × (frame : HFrame) × (rest : List HFrame)
    × Moves e frames [] g × (g.waiting ≡ frame ∷ rest) × (take_of g.term frame ≡ Err why)
    × (g.unwritten ≡ []) × (g.stop ≡ Some (stop.Refused why)))
    ⊎ ((acts : List Acted)
    × Moves e e.waiting acts g × IsIdle g × (e.broken_by ≡ None) × (act_of g.term ≡ Err why) × (g.stop ≡ Some (stop.Refused why)))
GoesOn e (Err fault.OutOfMemory) g = ⊥
GoesOn e (Err fault.CountFull) g = ⊥

-- a call to an end that has stopped says why again and leaves it as it is; else the end first goes on with what waits, and then does
-- what the call brought
abbrev pub Calls : PlainTermEndpoint → Result (Unit {0}) (EndpointFault TermStop) → PlainTermEndpoint → (PlainTermEndpoint → Type 0)
    → Type 0
Calls e result g Brings =
    ((why : TermStop) × (e.stop ≡ Some why) × (result ≡ Err (fault.Stopped why)) × (g ≡ e))
    ⊎ ((e.stop ≡ None) × (middle : PlainTermEndpoint) × (first : Result (Unit {0}) (EndpointFault TermStop))
    × GoesOn e first middle × After first middle result g Brings)
  where
    After : Result (Unit {0}) (EndpointFault TermStop) → PlainTermEndpoint → Result (Unit {0}) (EndpointFault TermStop) → PlainTermEndpoint
        → (PlainTermEndpoint → Type 0) → Type 0
    After (Ok done) middle result g Brings = Brings middle
    After (Err fault.Unfinished) middle result g Brings = (result ≡ Err fault.OutOfMemory) × (g ≡ middle)
    After (Err (fault.Stopped why)) middle result g Brings = (result ≡ Err (fault.Stopped why)) × (g ≡ middle)
    After (Err fault.OutOfMemory) middle result g Brings = ⊥
    After (Err fault.CountFull) middle result g Brings = ⊥

-- the framer took the piece in: its frames wait, and then perhaps a fault of the stream
abbrev pub TakesIn : PlainTermEndpoint → List ℕ → PlainTermEndpoint → Type 0
TakesIn e piece k =
    (frames : List HFrame) × (broken_by : Option StreamFault) × (rest : Held)
    × Gives host e.framer piece frames broken_by rest × (k ≡ record e { framer = rest; waiting = frames; broken_by = broken_by })

-- a piece of the host's stream, where nothing waits
abbrev pub FeedsIdle : PlainTermEndpoint → List ℕ → Result (Unit {0}) (EndpointFault TermStop) → PlainTermEndpoint → Type 0
FeedsIdle e piece result g =
    ((k : PlainTermEndpoint) × TakesIn e piece k × GoesOn k result g)
    ⊎ (((result ≡ Err fault.OutOfMemory) × HasRoom e.framer piece × (g ≡ e))
    ⊎ ((result ≡ Err fault.CountFull) × (2 ^ 64 ≤ e.framer.offset + length e.framer.bytes + length piece) × (g ≡ e)))

-- the event is held after the others
abbrev pub with_event : PlainTermEndpoint → UserEvent → PlainTermEndpoint
with_event e event = record e { term = record e.term { held = e.term.held ++ event ∷ [] }; events = e.events + 1 }

-- an event of the user, where nothing waits
abbrev pub PutsIdle : PlainTermEndpoint → UserEvent → Result (Unit {0}) (EndpointFault TermStop) → PlainTermEndpoint → Type 0
PutsIdle e event result g =
    GoesOn (with_event e event) result g
    ⊎ (((result ≡ Err fault.OutOfMemory) × (e.events < 2 ^ 64 - 1) × (g ≡ e))
    ⊎ ((result ≡ Err fault.CountFull) × (e.events ≡ 2 ^ 64 - 1) × (g ≡ e)))

-- the unsent runes are composed, where nothing waits
abbrev pub FlushesIdle : PlainTermEndpoint → Result (Unit {0}) (EndpointFault TermStop) → PlainTermEndpoint → Type 0
FlushesIdle e result g =
    ((u : PlainTerminal) × (composed : List Tmesg) × (flush_of e.term ≡ Ok (u, composed)) × FitMessages composed
    × GoesOn (record e { term = u; unwritten = composed }) result g)
    ⊎ (((result ≡ Err fault.OutOfMemory) × IsOk (flush_of e.term) × (g ≡ e))
    ⊎ ((why : TermFault) × (flush_of e.term ≡ Err why) × (result ≡ Err (fault.Stopped (stop.Refused why)))
    × (g ≡ record e { stop = Some (stop.Refused why) })))

-- what the calls answer, and how they leave the end
abbrev pub Feeds : PlainTermEndpoint → List ℕ → Result (Unit {0}) (EndpointFault TermStop) → PlainTermEndpoint → Type 0
Feeds e piece result g = Calls e result g (λ middle. FeedsIdle middle piece result g)

abbrev pub Puts : PlainTermEndpoint → UserEvent → Result (Unit {0}) (EndpointFault TermStop) → PlainTermEndpoint → Type 0
Puts e event result g = Calls e result g (λ middle. PutsIdle middle event result g)

abbrev pub Flushes : PlainTermEndpoint → Result (Unit {0}) (EndpointFault TermStop) → PlainTermEndpoint → Type 0
Flushes e result g = Calls e result g (λ middle. FlushesIdle middle result g)

-- ## What changed in a text

-- the change of an open file's text since this was asked last, and from now on; or it is not open; or memory was refused, where neither
-- this file nor one with a higher tag was asked of before
abbrev pub Asks : {E : Type 0} → PlainTermEndpoint → ℕ → Result (Option Change) E → PlainTermEndpoint → Type 0
Asks e tag (Ok (Some change)) g =
    (is_open e.term tag ≡ true) × (change ≡ change_of (kept_at e.kept tag) (length (rasp_at e.term tag)))
    × (g ≡ record e { kept = asked e.kept tag (length (rasp_at e.term tag)) })
Asks e tag (Ok None) g = (is_open e.term tag ≡ false) × (g ≡ e)
Asks e tag (Err why) g = (is_open e.term tag ≡ true) × (length e.kept ≤ tag) × (g ≡ e)

-- ## The end of the stream

-- all that came was received, what was composed is written, and no fault stands after it
abbrev pub IsDone : PlainTermEndpoint → Type 0
IsDone e = IsIdle e × (e.broken_by ≡ None)

-- whether the stream may end here: it may where all of it was received, and it ends between two frames
abbrev pub Finishes : PlainTermEndpoint → Result (Unit {0}) (FinishFault TermStop) → Type 0
Finishes e (Err (ending.Stopped why)) = e.stop ≡ Some why
Finishes e (Err ending.Unfinished) = (e.stop ≡ None) × (IsDone e → ⊥)
Finishes e (Err ending.Truncated) = (e.stop ≡ None) × IsDone e × (0 < length e.framer.bytes)
Finishes e (Ok done) = (e.stop ≡ None) × IsDone e × (e.framer.bytes ≡ [])
