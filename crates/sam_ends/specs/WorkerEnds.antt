-- What each thread tells of its end. A list that a record names is there, whatever the thread's schedule was.
use Rattle.std.specs.Prelude.{◌≡◌, ℕ, ◌^◌, ◌<◌, ◌≤◌, ◌⊎◌, true, false, List, [], ◌∷◌, ◌++◌, length, map, take, All, Option, Some, None, Err}
use Rattle.std.specs.Global.{Vec}
use Rattle.sam_runes.specs.Texts.{most_files}
use Rattle.sam_mesg.specs.declared.fault.MesgFault.{MesgFault}
use Rattle.sam_mesg.specs.TerminalKinds.{FitsT}
use Rattle.sam_mesg.specs.declared.tmesg.Tmesg.{Tmesg}
use Rattle.sam_mesg.specs.HostKinds.{fits_h, FitsH}
use Rattle.sam_mesg.specs.declared.hmesg.HFrame.{HFrame}
use Rattle.sam_frame.specs.Direction.{Direction, terminal, host, frame_of}
use Rattle.sam_frame.specs.Stream.{FitInTurn, version_after, stream_of, IsOpen, Shows}
use Rattle.sam_host.specs.Host.{PlainHost, answer, new_host}
use Rattle.sam_host.specs.declared.fault.HostFault.{HostFault}
use Rattle.sam_term.specs.Term.{PlainTerminal, new_terminal, act_of, flush_of, take_of}
use Rattle.sam_term.specs.declared.fault.TermFault.{TermFault}
use Rattle.sam_term.specs.declared.fault.TermFault.TheVariants.{CountFull}
use Rattle.sam_term.specs.declared.event.UserEvent.{UserEvent}
use Rattle.sam_term.specs.declared.event.UserEvent.TheVariants.{Exit}
use Rattle.sam_sides.specs.Given.{IsFile}
use Rattle.sam_sides.specs.Logs.{logged_users}
use Rattle.sam_sides.specs.Sides.{Each, HostRuns, TermRuns}
use Rattle.sam_sides.specs.RealSides.{at_work, sides}
use Rattle.sam_queue.specs.declared.rule.Entry.{Entry}
use Rattle.sam_queue.specs.History.{items_of, has_left, IsEnded}
use Rattle.sam_queue.specs.Views.{LineView}
use Rattle.sam_ends.specs.Lines.{LinesView}
use Rattle.sam_mesg.specs.Faults.{mesg_fault_number}
use Rattle.sam_host.specs.Faults.{host_fault_number}
use Rattle.sam_term.specs.Faults.{term_fault_number}
use Rattle.sam_ends.specs.Inputs.{bytes_of, frames_in, users_in}
use Rattle.sam_ends.specs.declared.input.Input.{Input}
use Rattle.sam_ends.specs.declared.input.Input.TheVariants.{User, Host}
use Rattle.sam_ends.specs.declared.stop.Stop.{Stop}
use Rattle.sam_ends.specs.declared.stop.Stop.TheVariants as stop
use Rattle.sam_ends.specs.declared.ends.UserEnd.{UserEnd}
use Rattle.sam_ends.specs.declared.ends.HostEnd.{HostEnd}
use Rattle.sam_ends.specs.declared.ends.ReaderEnd.{ReaderEnd}
use Rattle.sam_ends.specs.declared.ends.TermEnd.{TermEnd}
use Rattle.sam_ends.specs.declared.ends.Ends.{Ends}

-- ## The keyboard and the mouse

abbrev pub UserStopped : ℕ → ℕ → Option Stop → Type 0
UserStopped n all None = n ≡ all
UserStopped n all (Some stop.Gate) = Unit {0}
UserStopped n all (Some (stop.Frame number)) = ⊥
UserStopped n all (Some (stop.Host number)) = ⊥
UserStopped n all (Some (stop.Term number)) = ⊥
UserStopped n all (Some stop.PeerGone) = ⊥
UserStopped n all (Some stop.Memory) = ⊥

-- the first events were put, each once and in order, all of them where nothing stopped it, and then the end mark
pub record UserTold (number : ℕ) (events : List UserEvent) (line : LineView) (e : UserEnd) : Type 0 where
  pub many : ℕ
  pub line_is : e.post.line ≡ line
  pub number_is : e.post.number ≡ number
  pub put : e.post.put ≡ map User (take many events)
  pub closed : e.post.closed ≡ true
  pub stopped : UserStopped many (length events) e.stop

-- ## The host and the host reader

-- more bytes were taken than can be counted
abbrev pub IsPastCount : List (Entry (Vec ℕ)) → Type 0
IsPastCount taken = 2 ^ 64 ≤ length (bytes_of (items_of 0 taken))

-- the stream shows a fault of this number after these messages; what came after it was dropped
abbrev pub ShowsFault : {M : Type 0} → Direction M → List M → List ℕ → ℕ → Type 0
ShowsFault d messages rest n =
    (shown : List ℕ) × (dropped : List ℕ) × (fault : MesgFault)
    × (rest ≡ shown ++ dropped) × Shows d (version_after d 1 messages) shown fault × (n ≡ mesg_fault_number fault)

-- the host refused the next message of the stream
abbrev pub RefusesNext : PlainHost → List ℕ → ℕ → Type 0
RefusesNext h rest n =
    (m : Tmesg) × (more : List ℕ) × (why : HostFault)
    × FitsT 2 m × (rest ≡ frame_of terminal m ++ more) × (answer h m ≡ Err why) × (n ≡ host_fault_number why)

-- Where nothing stopped it, it handled all whole messages, and put all its answers
abbrev pub HostStopped : HostEnd → List Tmesg → List ℕ → List ℕ → Option Stop → Type 0
HostStopped e handled to_send rest None = (to_send ≡ []) × IsOpen terminal (version_after terminal 1 handled) rest
HostStopped e handled to_send rest (Some (stop.Frame n)) = ((n ≡ 7) × IsPastCount e.take.taken) ⊎ ShowsFault terminal handled rest n
HostStopped e handled to_send rest (Some (stop.Host n)) = RefusesNext e.host rest n
HostStopped e handled to_send rest (Some (stop.Term n)) = ⊥
HostStopped e handled to_send rest (Some stop.PeerGone) = ⊥
HostStopped e handled to_send rest (Some stop.Gate) = Unit {0}
HostStopped e handled to_send rest (Some stop.Memory) = Unit {0}

-- From the files that it began with, it handled the messages in order and answered the frames. It took all that came, up to the end mark:
-- the frames of what it handled and a rest; the pieces that it put, and what it could not put any more, are the frames of its answers
pub record HostTold (up down : LineView) (e : HostEnd) : Type 0 where
  pub handled : List Tmesg
  pub answered : List HFrame
  pub to_send : List ℕ
  pub rest : List ℕ
  pub take_is : e.take.line ≡ up
  pub post_is : e.post.line ≡ down
  pub number_is : e.post.number ≡ 0
  pub drained : IsEnded 1 e.take.taken
  pub files : (length e.files.items ≤ most_files) × All IsFile e.files.items
  pub runs : HostRuns sides (new_host e.files.items) handled answered e.host
  pub fit : FitInTurn terminal 1 handled
  pub got : bytes_of (items_of 0 e.take.taken) ≡ stream_of terminal handled ++ rest
  pub sent : bytes_of e.post.put ++ to_send ≡ stream_of host answered
  pub answers_fit : Each (FitsH 2) answered
  pub closed : e.post.closed ≡ true
  pub stopped : HostStopped e handled to_send rest e.stop

abbrev pub ReaderStopped : ReaderEnd → List HFrame → List ℕ → Option Stop → Type 0
ReaderStopped e passed rest None = IsOpen host (version_after host 1 passed) rest
ReaderStopped e passed rest (Some (stop.Frame n)) = ((n ≡ 7) × IsPastCount e.take.taken) ⊎ ShowsFault host passed rest n
ReaderStopped e passed rest (Some (stop.Host n)) = ⊥
ReaderStopped e passed rest (Some (stop.Term n)) = ⊥
ReaderStopped e passed rest (Some stop.PeerGone) = ⊥
ReaderStopped e passed rest (Some stop.Gate) = Unit {0}
ReaderStopped e passed rest (Some stop.Memory) = Unit {0}

-- it took all that came, up to the end mark: the frames that it sent on, and a rest
pub record ReaderTold (down events : LineView) (e : ReaderEnd) : Type 0 where
  pub passed : List HFrame
  pub rest : List ℕ
  pub take_is : e.take.line ≡ down
  pub post_is : e.post.line ≡ events
  pub number_is : e.post.number ≡ 2
  pub drained : IsEnded 1 e.take.taken
  pub fit : FitInTurn host 1 passed
  pub got : bytes_of (items_of 0 e.take.taken) ≡ stream_of host passed ++ rest
  pub put : e.post.put ≡ map Host passed
  pub closed : e.post.closed ≡ true
  pub stopped : ReaderStopped e passed rest e.stop

-- ## The terminal

-- the terminal refused the next frame that it took
abbrev pub RefusesFrame : PlainTerminal → List (Entry Input) → ℕ → Type 0
RefusesFrame t dropped n =
    (sender : ℕ) × (frame : HFrame) × (more : List (Entry Input)) × (why : TermFault)
    × (dropped ≡ record { sender = sender; load = Some (Host frame) } ∷ more) × (take_of t frame ≡ Err why) × (n ≡ term_fault_number why)

-- what it took next is no item of a session: a frame beyond the limits, or a user's event of the host reader
abbrev pub IsForeign : List (Entry Input) → ℕ → Type 0
IsForeign dropped n =
    ((sender : ℕ) × (frame : HFrame) × (more : List (Entry Input))
    × (dropped ≡ record { sender = sender; load = Some (Host frame) } ∷ more) × (fits_h 2 frame.msg ≡ false) × (n ≡ 2))
    ⊎ ((event : UserEvent) × (more : List (Entry Input)) × (dropped ≡ record { sender = 2; load = Some (User event) } ∷ more) × (n ≡ 1))

-- what it has next to compose would pass the count of messages
abbrev pub IsFullUp : PlainTerminal → Type 0
IsFullUp t = (act_of t ≡ Err CountFull) ⊎ (flush_of t ≡ Err CountFull)

-- Where nothing stopped it, it handled all that came, the host ended the session, and nothing is held, unsent or not put. It misses the
-- host where the host reader left before the session was ended
abbrev pub TermStopped : TermEnd → List (Entry Input) → List (Entry Input) → List ℕ → Option Stop → Type 0
TermStopped e handled dropped to_send None =
    (dropped ≡ []) × (to_send ≡ []) × (e.term.has_exited ≡ true) × (e.term.held ≡ []) × (e.term.unsent ≡ None)
TermStopped e handled dropped to_send (Some (stop.Frame n)) = IsForeign dropped n
TermStopped e handled dropped to_send (Some (stop.Host n)) = ⊥
TermStopped e handled dropped to_send (Some (stop.Term n)) = ((n ≡ 8) × IsFullUp e.term) ⊎ RefusesFrame e.term dropped n
TermStopped e handled dropped to_send (Some stop.PeerGone) = (e.term.has_exited ≡ false) × (has_left 2 handled ≡ true)
TermStopped e handled dropped to_send (Some stop.Gate) = Unit {0}
TermStopped e handled dropped to_send (Some stop.Memory) = Unit {0}

-- its own Exit, once keyboard and mouse have left, or none
abbrev pub IsOwnExit : List UserEvent → List (Entry Input) → Type 0
IsOwnExit own entries = (own ≡ []) ⊎ ((own ≡ Exit ∷ []) × (has_left 0 entries ≡ true) × (has_left 1 entries ≡ true))

-- What it took, up to the last end mark, is what it handled, in order, and what it dropped. Its log goes through the user's events and
-- the frames that it handled, with at most one Exit of its own after the last event, and composes the messages; each Act did or refused
-- an event, and each Flush composed runes. The pieces that it put,
-- and what it could not put any more, are the frames of the messages
pub record TermTold (events up : LineView) (e : TermEnd) : Type 0 where
  pub handled : List (Entry Input)
  pub dropped : List (Entry Input)
  pub composed : List Tmesg
  pub to_send : List ℕ
  pub own : List UserEvent
  pub take_is : e.take.line ≡ events
  pub post_is : e.post.line ≡ up
  pub number_is : e.post.number ≡ 0
  pub drained : IsEnded 3 e.take.taken
  pub took : e.take.taken ≡ handled ++ dropped
  pub runs : TermRuns at_work new_terminal e.log.items (frames_in handled) composed e.term
  pub users : logged_users e.log.items ≡ users_in handled ++ own
  pub exits : IsOwnExit own handled
  pub fit : Each (FitsT 2) composed
  pub sent : bytes_of e.post.put ++ to_send ≡ stream_of terminal composed
  pub closed : e.post.closed ≡ true
  pub stopped : TermStopped e handled dropped to_send e.stop

-- ## All five

-- the five ends of one set of lines, of a session in which the user did this at the keyboard and that with the mouse
pub record Told (keys clicks : List UserEvent) (lines : LinesView) (e : Ends) : Type 0 where
  pub lines_are : (lines.up.senders ≡ 1) × (lines.down.senders ≡ 1) × (lines.events.senders ≡ 3)
  pub keyboard : UserTold 0 keys lines.events e.keyboard
  pub mouse : UserTold 1 clicks lines.events e.mouse
  pub host : HostTold lines.up lines.down e.host
  pub reader : ReaderTold lines.down lines.events e.reader
  pub term : TermTold lines.events lines.up e.term

-- the ends of one session
abbrev pub AreEnds : Ends → Type 0
AreEnds ends = (keys : List UserEvent) × (clicks : List UserEvent) × (lines : LinesView) × Told keys clicks lines ends

-- a worker was stopped at its gate only where the gate may refuse it
pub record GatesTold (refuses : ℕ → Type 0) (e : Ends) : Type 0 where
  pub keyboard : e.keyboard.stop ≡ Some stop.Gate → refuses 0
  pub mouse : e.mouse.stop ≡ Some stop.Gate → refuses 1
  pub host : e.host.stop ≡ Some stop.Gate → refuses 2
  pub reader : e.reader.stop ≡ Some stop.Gate → refuses 3
  pub term : e.term.stop ≡ Some stop.Gate → refuses 4

-- each worker was let begin
abbrev pub AllPassed : Ends → Type 0
AllPassed e =
    (e.keyboard.passed ≡ true) × (e.mouse.passed ≡ true) × (e.host.passed ≡ true)
    × (e.reader.passed ≡ true) × (e.term.passed ≡ true)

-- the gate may refuse some worker
abbrev pub RefusesSome : (ℕ → Type 0) → Type 0
RefusesSome refuses = (worker : ℕ) × (worker < 5) × refuses worker
