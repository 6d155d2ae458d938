-- What the terminal's worker has between two of its steps.
use Rattle.std.specs.Prelude.{◌≡◌, ◌⊎◌, ◌<◌, ◌+◌, ℕ, length, Bool, true, false, List, [], ◌∷◌, ◌++◌, drop, Option, Some, None}
use Rattle.std.specs.Prelude.{if◌then◌else◌, is_some, Result, Ok, Err}
use Rattle.std.specs.Global.{Vec}
use Rattle.sam_mesg.specs.declared.hmesg.HFrame.{HFrame}
use Rattle.sam_mesg.specs.Faults.{mesg_fault_number}
use Rattle.sam_mesg.specs.TerminalKinds.{FitsT}
use Rattle.sam_mesg.specs.declared.tmesg.Tmesg.{Tmesg}
use Rattle.sam_frame.specs.Direction.{terminal}
use Rattle.sam_frame.specs.Stream.{stream_of}
use Rattle.sam_term.specs.Term.{PlainTerminal, new_terminal, act_of, take_of}
use Rattle.sam_term.specs.declared.event.UserEvent.{UserEvent}
use Rattle.sam_term.specs.declared.event.UserEvent.TheVariants.{Exit}
use Rattle.sam_term.specs.declared.event.Acted.TheVariants.{Locked}
use Rattle.sam_term.specs.declared.fault.TermFault.{TermFault}
use Rattle.sam_endpoint.specs.Streams.{mesg_fault}
use Rattle.sam_endpoint.specs.TermEndpoints.{PlainTermEndpoint, new_term_endpoint}
use Rattle.sam_endpoint.specs.declared.fault.EndpointFault.{EndpointFault}
use Rattle.sam_endpoint.specs.declared.fault.EndpointFault.TheVariants as fault
use Rattle.sam_endpoint.specs.declared.fault.TermStop.{TermStop}
use Rattle.sam_endpoint.specs.declared.fault.TermStop.TheVariants as cause
use Rattle.sam_endpoint.specs.declared.step.BringFault.{BringFault}
use Rattle.sam_endpoint.specs.declared.step.BringFault.TheVariants as bring
use Rattle.sam_sides.specs.declared.log.TermLog.{TermLog}
use Rattle.sam_sides.specs.Logs.{logged_users}
use Rattle.sam_sides.specs.Sides.{Each, TermRuns}
use Rattle.sam_queue.specs.declared.rule.Entry.{Entry}
use Rattle.sam_queue.specs.History.{has_left, IsEnded}
use Rattle.sam_queue.specs.Views.{TakeView, PostView}
use Rattle.sam_sides.specs.RealSides.{at_work}
use Rattle.sam_ends.specs.Cutting.{IsPiece}
use Rattle.sam_ends.specs.Gates.{IsCount}
use Rattle.sam_ends.specs.Numbers.{of_term_fault}
use Rattle.sam_term.specs.Faults.{term_fault_number}
use Rattle.sam_ends.specs.Inputs.{bytes_of, frame_of_load, frames_in, user_of_load, users_in}
use Rattle.sam_ends.specs.WorkerEnds.{RefusesFrame, IsForeign, IsFullUp}
use Rattle.sam_ends.specs.declared.input.Input.{Input}
use Rattle.sam_term_worker.specs.declared.term_side.Found.{Found}
use Rattle.sam_term_worker.specs.declared.term_side.Found.TheVariants as found
use Rattle.sam_ends.specs.declared.stop.Stop.{Stop}
use Rattle.sam_ends.specs.declared.stop.Stop.TheVariants as stop

-- ## The terminal at its end of the stream

-- the end, the log of its steps, and how many bytes a piece may have
pub record LoggedView : Type 0 where
  pub end : PlainTermEndpoint
  pub log : List TermLog
  pub most : ℕ

-- the bytes of composed messages that are not put, written or not
abbrev pub bytes_left : LoggedView → List ℕ
bytes_left v = v.end.pending_bytes ++ stream_of terminal v.end.unwritten

-- nothing has stopped the end, and no frame waits
pub record CanGoOn (e : PlainTermEndpoint) : Type 0 where
  pub goes : e.stop ≡ None
  pub none_waits : e.waiting ≡ []
  pub reads : e.broken_by ≡ None

-- from a to b the terminal went through more of its log, took these events and frames, and composed messages, whose bytes are not put
pub record Did (a b : LoggedView) (events : List UserEvent) (frames : List HFrame) : Type 0 where
  pub entries : List TermLog
  pub composed : List Tmesg
  pub log : b.log ≡ a.log ++ entries
  pub users : logged_users entries ≡ events
  pub runs : TermRuns at_work a.end.term entries frames composed b.end.term
  pub fit : Each (FitsT 2) composed
  pub bytes : bytes_left b ≡ bytes_left a ++ stream_of terminal composed

-- terminal, log and bytes are as they were
pub record IsStill (a b : LoggedView) : Type 0 where
  pub term : b.end.term ≡ a.end.term
  pub log : b.log ≡ a.log
  pub bytes : bytes_left b ≡ bytes_left a

-- why a worker stops whose end has stopped, whose end's step answers this, whose end doesn't take what it is brought
abbrev pub of_stop : TermStop → Stop
of_stop (cause.Refused why) = of_term_fault why
of_stop (cause.Stream why) = stop.Frame (mesg_fault_number (mesg_fault why))

abbrev pub of_end_fault : EndpointFault TermStop → Stop
of_end_fault (fault.Stopped why) = of_stop why
of_end_fault fault.Unfinished = stop.Memory
of_end_fault fault.OutOfMemory = stop.Memory
of_end_fault fault.CountFull = stop.Memory

abbrev pub of_bring_fault : BringFault TermStop → Stop
of_bring_fault (bring.Stopped why) = of_stop why
of_bring_fault bring.Waiting = stop.Memory
of_bring_fault bring.CountFull = stop.Memory
of_bring_fault bring.OutOfMemory = stop.Memory

-- it did something and can go on, or nothing; or memory was wanted, or what it has next to compose would pass the count
abbrev pub WentOn : {A : Type 0} → LoggedView → Result A Stop → LoggedView → Type 0
WentOn a (Ok done) b = Did a b [] [] × CanGoOn b.end
WentOn a (Err why) b = IsStill a b × ((why ≡ stop.Memory) ⊎ ((why ≡ stop.Term 8) × IsFullUp b.end.term))

-- memory was wanted, or the terminal refuses the frame
abbrev pub IsRefusedWith : PlainTerminal → HFrame → Stop → Type 0
IsRefusedWith t frame s = (s ≡ stop.Memory) ⊎ ((why : TermFault) × (take_of t frame ≡ Err why) × (s ≡ stop.Term (term_fault_number why)))

-- it took the frame and can go on, or nothing was done
abbrev pub Took : LoggedView → HFrame → Result (Unit {0}) Stop → LoggedView → Type 0
Took a frame (Ok done) b = Did a b [] (frame ∷ []) × CanGoOn b.end
Took a frame (Err why) b = IsStill a b × IsRefusedWith a.end.term frame why

-- events of the user come from keyboard and mouse
abbrev pub IsOfUser : ℕ → List UserEvent → Type 0
IsOfUser sender events = (events ≡ []) ⊎ (sender < 2)

-- why an item was not handled
abbrev pub WasNotHandled : PlainTerminal → ℕ → Input → Stop → Type 0
WasNotHandled t sender input (stop.Frame n) = IsForeign (record { sender = sender; load = Some input } ∷ []) n
WasNotHandled t sender input (stop.Host n) = ⊥
WasNotHandled t sender input (stop.Term n) = RefusesFrame t (record { sender = sender; load = Some input } ∷ []) n
WasNotHandled t sender input stop.PeerGone = ⊥
WasNotHandled t sender input stop.Gate = ⊥
WasNotHandled t sender input stop.Memory = Unit {0}

-- the item was handled, or nothing was done
abbrev pub Handled : LoggedView → ℕ → Input → Result (Unit {0}) Stop → LoggedView → Type 0
Handled a sender input (Ok done) b =
    Did a b (user_of_load (Some input)) (frame_of_load (Some input)) × CanGoOn b.end × IsOfUser sender (user_of_load (Some input))
Handled a sender input (Err why) b = IsStill a b × WasNotHandled a.end.term sender input why

-- a piece is the first of the written bytes
abbrev pub IsNextPiece : LoggedView → Option (Vec ℕ) → Type 0
IsNextPiece v None = Unit {0}
IsNextPiece v (Some piece) =
    IsPiece v.most piece × (v.end.pending_bytes ≡ piece.items ++ drop (length piece.items) v.end.pending_bytes)

-- some of the written bytes went, and all else is as it was
abbrev pub IsPutOn : LoggedView → LoggedView → Type 0
IsPutOn a b = b ≡ record a { end = record a.end { pending_bytes = b.end.pending_bytes } }

-- ## The worker

-- the worker: its ends of the lines, the terminal with its log and its bytes, who has left, whether it has put an Exit of its own, how many
-- items it has handled, and what stopped it
pub record SideView : Type 0 where
  pub take : TakeView Input
  pub post : PostView (Vec ℕ)
  pub logged : LoggedView
  pub keyboard_left : Bool
  pub mouse_left : Bool
  pub exit_put : Bool
  pub steps : ℕ
  pub stop : Option Stop

-- what was dropped, by what stopped the worker; where nothing did, the end can go on
abbrev pub SoFar : PlainTermEndpoint → List (Entry Input) → Option Stop → Type 0
SoFar e dropped None = (dropped ≡ []) × CanGoOn e
SoFar e dropped (Some (stop.Frame n)) = IsForeign dropped n
SoFar e dropped (Some (stop.Host n)) = ⊥
SoFar e dropped (Some (stop.Term n)) = ((n ≡ 8) × IsFullUp e.term) ⊎ RefusesFrame e.term dropped n
SoFar e dropped (Some stop.PeerGone) = e.term.has_exited ≡ false
SoFar e dropped (Some stop.Gate) = Unit {0}
SoFar e dropped (Some stop.Memory) = Unit {0}

-- Its log is that of a run from a new terminal through what it handled, and what it has put and what it has not yet put are the frames of
-- what that run composed
pub record Ran (v : SideView) : Type 0 where
  pub handled : List (Entry Input)
  pub dropped : List (Entry Input)
  pub composed : List Tmesg
  pub own : List UserEvent
  pub number : v.post.number ≡ 0
  pub senders : v.take.line.senders ≡ 3
  pub took : v.take.taken ≡ handled ++ dropped
  pub runs : TermRuns at_work new_terminal v.logged.log (frames_in handled) composed v.logged.end.term
  pub users : logged_users v.logged.log ≡ users_in handled ++ own
  pub own_is : own ≡ (if v.exit_put then Exit ∷ [] else [])
  pub all_left : v.exit_put ≡ true → (v.keyboard_left ≡ true) × (v.mouse_left ≡ true)
  pub keyboard : v.keyboard_left ≡ true → has_left 0 handled ≡ true
  pub mouse : v.mouse_left ≡ true → has_left 1 handled ≡ true
  pub fit : Each (FitsT 2) composed
  pub sent : bytes_of v.post.put ++ bytes_left v.logged ≡ stream_of terminal composed
  pub so_far : SoFar v.logged.end dropped v.stop
  pub gone : v.stop ≡ Some stop.PeerGone → has_left 2 handled ≡ true
  pub counted : IsCount v.steps (length (users_in handled) + length (frames_in handled))

-- it stays at its lines, has taken and handled nothing more, and was not stopped by its gate
pub record Goes (a b : SideView) : Type 0 where
  pub take : b.take ≡ a.take
  pub line : b.post.line ≡ a.post.line
  pub steps : b.steps ≡ a.steps
  pub gate : b.stop ≡ Some stop.Gate → a.stop ≡ Some stop.Gate

-- it took what came, and its post may be closed; all else is as it was
pub record Rests (a b : SideView) : Type 0 where
  pub put : b.post.put ≡ a.post.put
  pub logged : b.logged ≡ a.logged
  pub steps : b.steps ≡ a.steps
  pub stop : b.stop ≡ a.stop

-- it has closed and taken all that came, and where nothing stopped it, all is done
pub record IsDone (v : SideView) : Type 0 where
  pub closed : v.post.closed ≡ true
  pub ended : IsEnded 3 v.take.taken
  pub sent : v.stop ≡ None → bytes_left v.logged ≡ []
  pub exited : v.stop ≡ None → v.logged.end.term.has_exited ≡ true
  pub none_held : v.stop ≡ None → v.logged.end.term.held ≡ []
  pub none_unsent : v.stop ≡ None → v.logged.end.term.unsent ≡ None

abbrev pub new_side : TakeView Input → PostView (Vec ℕ) → ℕ → Option Stop → SideView
new_side line post most why =
    record {
      take = line;
      post = post;
      logged = record { end = new_term_endpoint; log = []; most = most };
      keyboard_left = false;
      mouse_left = false;
      exit_put = false;
      steps = 0;
      stop = why;
    }

abbrev pub IsFound : SideView → Found → Type 0
IsFound v found.Entry = Unit {0}
IsFound v found.Nothing = Unit {0}
IsFound v found.Ended = IsEnded 3 v.take.taken

-- a lock holds the oldest event back
abbrev pub IsLocked : PlainTerminal → Type 0
IsLocked t = act_of t ≡ Ok (t, Locked)

-- no event can act: the worker has stopped, none is held, or a lock holds the oldest back
abbrev pub HasActed : SideView → Type 0
HasActed v = (is_some v.stop ≡ true) ⊎ ((v.logged.end.term.held ≡ []) ⊎ IsLocked v.logged.end.term)

-- the session is over, and nothing is held, unsent or not put
pub record IsQuiet (v : SideView) : Type 0 where
  pub exited : v.logged.end.term.has_exited ≡ true
  pub none_held : v.logged.end.term.held ≡ []
  pub none_unsent : is_some v.logged.end.term.unsent ≡ false
  pub sent : bytes_left v.logged ≡ []

-- it is to put an Exit of its own: once keyboard and mouse have left, if the session is not over and none was put before
pub record MayExit (v : SideView) : Type 0 where
  pub running : is_some v.stop ≡ false
  pub none_put : v.exit_put ≡ false
  pub keyboard : v.keyboard_left ≡ true
  pub mouse : v.mouse_left ≡ true
  pub goes_on : v.logged.end.term.has_exited ≡ false
