-- What is kept in order in every state of a run, and what follows from it.
use Rattle.std.specs.Prelude.{◌≡◌, ℕ, ◌+◌, ◌≤◌, ◌==◌, false, List, [], ◌∷◌, length, Some, Ok, Err}
use Rattle.sam_runes.specs.Texts.{most_count}
use Rattle.sam_host.specs.Host.{answer, given_slots}
use Rattle.sam_host.specs.Laws.{AreGiven}
use Rattle.sam_host.specs.declared.fault.HostFault.{HostFault}
use Rattle.sam_host.specs.declared.fault.HostFault.TheVariants as hostfault
use Rattle.sam_term.specs.Term.{PlainTerminal, composed, unsent_message, act_of, flush_of, take_of, is_file_locked}
use Rattle.sam_term.specs.Events.{file_of, waits_for_all, lock_of}
use Rattle.sam_term.specs.declared.event.UserEvent.{UserEvent}
use Rattle.sam_term.specs.declared.fault.TermFault.{TermFault}
use Rattle.sam_term.specs.declared.event.Acted.TheVariants.{Locked}
use Rattle.sam_term.specs.declared.lock.Lock.TheVariants.{FileLock}
use Rattle.sam_term.specs.declared.fault.TermFault.TheVariants as fault
use Rattle.sam_mesg.specs.declared.tmesg.Tmesg.{Tmesg}
use Rattle.sam_mesg.specs.declared.hmesg.HFrame.{HFrame}
use Rattle.sam_crossing.specs.Joining.{HasGiven, with_more}
use Rattle.sam_crossing.specs.Order.{InOrder}
use Rattle.sam_crossing.specs.StreamVersions.{version_behind}
use Rattle.sam_crossing.specs.World.{PlainWorld, mesgs, new_world, step_of, run_of, IsReached, is_locked, SidesAgreeWhereQuiet, IsAhead, HasOneVersion}
use Rattle.sam_crossing.specs.declared.event.Event.{Event}

-- each frame saw at most n messages
abbrev pub Stamped : ℕ → List HFrame → Type 0
Stamped n [] = Unit {0}
Stamped n (frame ∷ frames) = (frame.seen ≤ n) × Stamped n frames

-- what the terminal has sent is what the host has taken and what is under way to it; no frame is from the future
pub record IsCounted (w : PlainWorld) : Type 0 where
  pub all : w.host.taken + length w.up ≡ w.term.sent
  pub stamps : Stamped w.host.taken w.down

-- messages and frames are counted, and once all that is under way was handled, with nothing new begun, no lock is held and both
-- sides agree. So it is where files joined now, however many
pub record IsInOrder (w : PlainWorld) : Type 0 where
  pub counted : IsCounted w
  pub given : HasGiven w.host.files
  pub ordered : InOrder w.host w.term w.up (mesgs w.down)
  pub joined : (more : List (List ℕ × List ℕ)) → AreGiven more → InOrder (with_more w.host (given_slots more)) w.term w.up (mesgs w.down)

-- the count of messages has room for the unsent runes
abbrev pub IsCountable : PlainWorld → Type 0
IsCountable w = w.term.sent + length (unsent_message w.term.unsent) ≤ most_count

-- ## The laws

abbrev pub StartsInOrder : Type 0
StartsInOrder = (given : List (List ℕ × List ℕ)) → AreGiven given → IsInOrder (new_world given)

-- whatever the event is, and whatever the user does
abbrev pub StepsInOrder : Type 0
StepsInOrder = (w next : PlainWorld) (e : Event) → IsInOrder w → step_of w e ≡ Some next → IsInOrder next

abbrev pub RunsInOrder : Type 0
RunsInOrder = (w last : PlainWorld) (es : List Event) → IsInOrder w → run_of w es ≡ Some last → IsInOrder last

-- so every state of every run is in order
abbrev pub ReachedInOrder : Type 0
ReachedInOrder = (given : List (List ℕ × List ℕ)) (w : PlainWorld) → AreGiven given → IsReached given w → IsInOrder w

-- the host refuses no message of the terminal, unless its count is full
abbrev pub HostNeverRefuses : Type 0
HostNeverRefuses =
    (w : PlainWorld) (m : Tmesg) (ms : List Tmesg) (why : HostFault) → IsInOrder w → w.up ≡ m ∷ ms → answer w.host m ≡ Err why
    → (why ≡ hostfault.CountFull) × (w.host.taken ≡ most_count)

-- the terminal refuses no frame of the host, unless its count would be passed
abbrev pub TerminalNeverRefuses : Type 0
TerminalNeverRefuses =
    (w : PlainWorld) (frame : HFrame) (frames : List HFrame) (why : TermFault) → IsInOrder w → w.down ≡ frame ∷ frames
    → take_of w.term frame ≡ Err why
    → why ≡ fault.CountFull

-- nor does an event or a flush stop it otherwise
abbrev pub OnlyCountsStop : Type 0
OnlyCountsStop =
    (t : PlainTerminal) (why : TermFault) → (act_of t ≡ Err why → why ≡ fault.CountFull) × (flush_of t ≡ Err why → why ≡ fault.CountFull)

abbrev pub QuietMeansAgreement : Type 0
QuietMeansAgreement = (w : PlainWorld) → IsInOrder w → SidesAgreeWhereQuiet w

abbrev pub FreeMeansAhead : Type 0
FreeMeansAhead = (w : PlainWorld) (f : ℕ) → IsInOrder w → IsCountable w → IsAhead w f

abbrev pub FreeMeansOneVersion : Type 0
FreeMeansOneVersion = (w : PlainWorld) → IsInOrder w → HasOneVersion w

-- where the terminal may act, its version is the one after all messages that are under way, so what it composes next fits there
abbrev pub FreeMeansVersionAtPlace : Type 0
FreeMeansVersionAtPlace =
    (w : PlainWorld) → IsInOrder w → w.term.command_lock ≡ false → w.term.has_exited ≡ false
    → w.term.version ≡ version_behind w.host.version w.up

-- a message that locks its file locks no other
abbrev pub OthersStayFree : Type 0
OthersStayFree =
    (t : PlainTerminal) (m : Tmesg) (f g : ℕ) → lock_of m ≡ FileLock f → (f == g) ≡ false
    → is_locked (composed t m) g ≡ is_locked t g

-- an event that names a file without a lock, and waits for no other lock, is not held back while the command lock is free
abbrev pub OthersGoOn : Type 0
OthersGoOn =
    (t u : PlainTerminal) (e : UserEvent) (es : List UserEvent) → t.held ≡ e ∷ es
    → t.command_lock ≡ false → is_file_locked t (file_of e) ≡ false → waits_for_all e ≡ false → act_of t ≡ Ok (u, Locked)
    → ⊥

-- the first frame that is under way to the terminal saw no more messages than the terminal has sent
abbrev pub IsNeverFromTheFuture : Type 0
IsNeverFromTheFuture =
    (given : List (List ℕ × List ℕ)) (w : PlainWorld) (frame : HFrame) (frames : List HFrame)
    → IsReached given w → w.down ≡ frame ∷ frames → frame.seen ≤ w.term.sent
