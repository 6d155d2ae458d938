-- What the program prints of a session of five threads, and what stops it.
use Rattle.std.specs.Prelude.{◌≡◌, ◌⊎◌, ℕ, true, List, [], ◌∷◌, ◌++◌, Some}
use Rattle.sam_script.specs.Replay.{OfScript}
use Rattle.sam_script.specs.RunLines.{run_lines_of}
use Rattle.sam_script.specs.Script.{PlainScript, keys_of, mouse_of}
use Rattle.sam_script.specs.Show.{show_lines}
use Rattle.sam_script.specs.Spelling.{IsWrongLine}
use Rattle.sam_term.specs.declared.event.UserEvent.{UserEvent}
use Rattle.sam_term.specs.declared.event.UserEvent.TheVariants.{Exit}
use Rattle.sam_crossing.specs.World.{user_events, PlainWorld, new_world, run_of, SidesAgree}
use Rattle.sam_crossing.specs.declared.event.Event.{Event}
use Rattle.sam_local.specs.Local.{at_rest, carried_all}
use Rattle.sam_session.specs.Session.{IsSession}
use Rattle.sam_settle.specs.declared.settled.Settled.{Settled}
use Rattle.sam_spawn.specs.declared.run.RunFault.{RunFault}
use Rattle.sam_spawn.specs.declared.run.RunFault.TheVariants as run
use Rattle.sam_modes.specs.Causes.{of_stops}
use Rattle.sam_session.specs.Replaying.{IsShort}
use Rattle.sam_modes.specs.declared.fault.PlayFault.{PlayFault}
use Rattle.sam_modes.specs.declared.fault.PlayFault.TheVariants.{Script, Read, Write, Side, Threads, OutOfMemory}

-- what it is for the program that no session was run
abbrev pub of_run : RunFault → PlayFault
of_run run.GateTimedOut = Threads
of_run run.NoThread = Threads
of_run run.OutOfMemory = OutOfMemory

-- ## Where it ends well

-- the events of two senders, each once and each sender's in order
abbrev pub IsWoven : List UserEvent → List UserEvent → List UserEvent → Type 0
IsWoven keys clicks [] = (keys ≡ []) × (clicks ≡ [])
IsWoven keys clicks (event ∷ events) =
    ((more : List UserEvent) × (keys ≡ event ∷ more) × IsWoven more clicks events)
    ⊎ ((more : List UserEvent) × (clicks ≡ event ∷ more) × IsWoven keys more events)

-- the user's events are all those of the script's keyboard and mouse lines, and after them at most one Exit of the terminal's own
abbrev pub HasAllUsers : PlainScript → List Event → Type 0
HasAllUsers script schedule =
    (woven : List UserEvent) × (own : List UserEvent) × (user_events schedule ≡ woven ++ own)
    × IsWoven (keys_of script.lines) (mouse_of script.lines) woven × ((own ≡ []) ⊎ (own ≡ Exit ∷ []))

-- A run from the script's files to this world, in which the user does all that the script says, and at whose end the session is over, no
-- lock is held, and both sides agree. They are where its events lead an editor without a network, but for runes that are not loaded and
-- for counts
pub record IsSchedule (script : PlainScript) (schedule : List Event) (world : PlainWorld) : Type 0 where
  pub run : run_of (new_world script.files) schedule ≡ Some world
  pub users : HasAllUsers script schedule
  pub exited : world.term.has_exited ≡ true
  pub settled : SidesAgree world
  pub local : at_rest world.host world.term ≡ carried_all script.files (user_events schedule)

-- what is written is a schedule of the script, as a script, and what its end shows
abbrev pub PrintsSession : List ℕ → PlainScript → Type 0
PrintsSession written script =
    (schedule : List Event) × (world : PlainWorld) × (written ≡ run_lines_of script.files schedule ++ show_lines world)
    × IsSchedule script schedule world

-- what is written is such a session of the script that the input spells
abbrev pub IsThreaded : List ℕ → List ℕ → Type 0
IsThreaded input written = IsShort input × OfScript input (PrintsSession written)

-- ## Where it does not

-- a session of the script, at gates that refuse nobody, has stops of this cause
abbrev pub StopsSession : PlayFault → PlainScript → Type 0
StopsSession why script = (s : Settled) × (of_stops s.stops.items ≡ Some why) × IsSession script (λ _. ⊥) (λ _ _. ⊥) s

-- what a session of the script can come to: a side's stop, no threads, or out of memory
abbrev pub IsSessionFault : PlainScript → PlayFault → Type 0
IsSessionFault script (Script line) = ⊥
IsSessionFault script (Side stop) = StopsSession (Side stop) script
IsSessionFault script Threads = Unit {0}
IsSessionFault script Read = ⊥
IsSessionFault script Write = ⊥
IsSessionFault script OutOfMemory = Unit {0}

-- Which fault comes where. A first wrong line comes before any thread; where there is none, the threads can't be started, or a side stops
abbrev pub IsThreadsFault : List ℕ → PlayFault → Type 0
IsThreadsFault input (Script line) = IsShort input × IsWrongLine input line
IsThreadsFault input (Side stop) = IsShort input × OfScript input (StopsSession (Side stop))
IsThreadsFault input Threads = IsShort input × OfScript input (λ _. Unit {0})
IsThreadsFault input Read = Unit {0}
IsThreadsFault input Write = Unit {0}
IsThreadsFault input OutOfMemory = Unit {0}
