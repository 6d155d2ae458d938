-- What two sides did that worked apart from each other, joined by streams of bytes, and the one run that it is.
use Rattle.std.specs.Prelude.{◌≡◌, ℕ, ◌+◌, Bool, true, false, List, [], ◌∷◌, ◌++◌, Some, Err}
use Rattle.sam_mesg.specs.declared.fault.MesgFault.{MesgFault}
use Rattle.sam_mesg.specs.TerminalKinds.{FitsT}
use Rattle.sam_mesg.specs.declared.tmesg.Tmesg.{Tmesg}
use Rattle.sam_mesg.specs.HostKinds.{FitsH}
use Rattle.sam_mesg.specs.declared.hmesg.HFrame.{HFrame}
use Rattle.sam_frame.specs.Direction.{terminal, host, frame_of}
use Rattle.sam_frame.specs.Stream.{FitInTurn, stream_of, version_after, IsOpen, Shows}
use Rattle.sam_host.specs.Host.{PlainHost, answer, new_host, with_given}
use Rattle.sam_host.specs.Asides.{Aside, Joins, Marks}
use Rattle.sam_host.specs.Laws.{AreGiven}
use Rattle.sam_host.specs.Marking.{mark_frames, marked}
use Rattle.sam_host.specs.declared.fault.HostFault.{HostFault}
use Rattle.sam_host.specs.declared.fault.HostFault.TheVariants as refusal
use Rattle.sam_term.specs.Term.{PlainTerminal, new_terminal, take_of}
use Rattle.sam_term.specs.declared.fault.TermFault.{TermFault}
use Rattle.sam_term.specs.declared.fault.TermFault.TheVariants as fault
use Rattle.sam_sides.specs.declared.log.TermLog.{TermLog}
use Rattle.sam_world.specs.Logs.{logged_users}
use Rattle.sam_crossing.specs.Joining.{may_join}
use Rattle.sam_crossing.specs.World.{may_mark, user_events, PlainWorld, new_world, run_of}
use Rattle.sam_crossing.specs.declared.event.Event.{Event}
use Rattle.sam_crossing.specs.declared.event.Event.TheVariants.{User, Add, Mark, Act, Flush, HostTake, TermTake}
use Rattle.sam_sides.specs.RealSides.{sides}
use Rattle.sam_world.specs.Sides.{Each, HostRuns, TermRuns}
use Rattle.sam_world.specs.Prefixes.{Begins}
use Rattle.sam_world.specs.Merging.{merged, is_bad_log}

-- ## Files that join, and files that are marked

-- what is done at the host beside its messages, each with how many of these it had handled by then
abbrev pub Asides : Type 0
Asides = List (ℕ × Aside)

-- it may be done
abbrev pub may_do : PlainHost → Aside → Bool
may_do h (Joins file) = may_join h file.0 file.1
may_do h (Marks f) = may_mark h f

-- the host after it
abbrev pub after_aside : PlainHost → Aside → PlainHost
after_aside h (Joins file) = with_given h file
after_aside h (Marks f) = marked h f

-- the frames that come of it
abbrev pub aside_frames : PlainHost → Aside → List HFrame
aside_frames h (Joins file) = []
aside_frames h (Marks f) = mark_frames h f

-- the host handles the messages in order and answers the frames, and each aside is done, as it may be, between two messages: once it has
-- handled so many in all. Its frames stand between their answers
abbrev pub HostRunsWith : PlainHost → Asides → List Tmesg → List HFrame → PlainHost → Type 0
HostRunsWith h [] messages frames k = HostRuns sides h messages frames k
HostRunsWith h ((count, aside) ∷ asides) messages frames k =
    (before : List Tmesg) × (after : List Tmesg) × (first : List HFrame) × (rest : List HFrame) × (g : PlainHost)
    × (messages ≡ before ++ after) × (frames ≡ first ++ (aside_frames g aside ++ rest)) × HostRuns sides h before first g
    × (g.taken ≡ count) × (may_do g aside ≡ true) × HostRunsWith (after_aside g aside) asides after rest k

-- the asides in events before which the host had taken so many messages
abbrev pub asides_in : ℕ → List Event → Asides
asides_in count [] = []
asides_in count (User e ∷ es) = asides_in count es
asides_in count (Add name text ∷ es) = (count, Joins (name, text)) ∷ asides_in count es
asides_in count (Mark f ∷ es) = (count, Marks f) ∷ asides_in count es
asides_in count (Act ∷ es) = asides_in count es
asides_in count (Flush ∷ es) = asides_in count es
asides_in count (HostTake ∷ es) = asides_in (count + 1) es
asides_in count (TermTake ∷ es) = asides_in count es

-- the files that join among asides, in order
abbrev pub joined_in : Asides → List (List ℕ × List ℕ)
joined_in [] = []
joined_in ((count, Joins file) ∷ asides) = file ∷ joined_in asides
joined_in ((count, Marks f) ∷ asides) = joined_in asides

-- and those that are marked
abbrev pub marked_in : Asides → List ℕ
marked_in [] = []
marked_in ((count, Joins file) ∷ asides) = marked_in asides
marked_in ((count, Marks f) ∷ asides) = f ∷ marked_in asides

-- all other events
abbrev pub without_asides : List Event → List Event
without_asides [] = []
without_asides (User e ∷ es) = User e ∷ without_asides es
without_asides (Add name text ∷ es) = without_asides es
without_asides (Mark f ∷ es) = without_asides es
without_asides (Act ∷ es) = Act ∷ without_asides es
without_asides (Flush ∷ es) = Flush ∷ without_asides es
without_asides (HostTake ∷ es) = HostTake ∷ without_asides es
without_asides (TermTake ∷ es) = TermTake ∷ without_asides es

-- ## Two sides

-- A host of these files handled messages and answered frames, and beside that files joined it or were marked; a terminal went through its
-- log, took some frames and composed messages. The bytes of what the host handled begin those of what the terminal composed; the bytes of
-- the frames that came through begin those of what the host answered; and the terminal took the first of the frames that came through
pub record Apart (given : List (List ℕ × List ℕ)) (asides : Asides) (entries : List TermLog) (h : PlainHost) (t : PlainTerminal)
    (composed handled : List Tmesg) (answered passed taken : List HFrame) : Type 0 where
  pub given_fit : AreGiven given
  pub host_runs : HostRunsWith (new_host given) asides handled answered h
  pub term_runs : TermRuns sides new_terminal entries taken composed t
  pub composed_fit : Each (FitsT 2) composed
  pub answers_fit : Each (FitsH 2) answered
  pub handled_fit : FitInTurn terminal 1 handled
  pub passed_fit : FitInTurn host 1 passed
  pub up : (more : List ℕ) × (stream_of terminal composed ≡ stream_of terminal handled ++ more)
  pub down : (more : List ℕ) × (stream_of host answered ≡ stream_of host passed ++ more)
  pub passing : Begins taken passed

-- The merged schedule, in which each file joins or is marked after as many takes of the host, is a run of one world of these files. It
-- ends in the very states of the two sides, with what was composed and not handled, and answered and not taken, under way
pub record Joined (given : List (List ℕ × List ℕ)) (asides : Asides) (entries : List TermLog) (h : PlainHost) (t : PlainTerminal)
    (composed handled : List Tmesg) (answered taken : List HFrame) : Type 0 where
  pub events : List Event
  pub world : PlainWorld
  pub run : run_of (new_world given) events ≡ Some world
  pub merges : without_asides events ≡ merged entries h.taken
  pub asides_are : asides_in 0 events ≡ asides
  pub users_are : user_events events ≡ logged_users entries
  pub good : is_bad_log entries h.taken ≡ false
  pub host_is : world.host ≡ h
  pub term_is : world.term ≡ t
  pub upwards : composed ≡ handled ++ world.up
  pub downwards : answered ≡ taken ++ world.down
  pub composed_in_turn : FitInTurn terminal 1 composed
  pub answered_in_turn : FitInTurn host 1 answered

-- What can stop either side at a message of the other, and what a side has read that came to the end of its stream
pub record Understood (h : PlainHost) (t : PlainTerminal)
    (composed handled : List Tmesg) (answered passed taken : List HFrame) : Type 0 where
  -- the next message of the stream is refused only where the host's count is full
  pub host_stops_for_a_count : (m : Tmesg) (more : List ℕ) (why : HostFault) → FitsT 2 m
      → stream_of terminal composed ≡ (stream_of terminal handled ++ frame_of terminal m) ++ more
      → answer h m ≡ Err why → why ≡ refusal.CountFull
  -- the next frame is refused only where the terminal's count would be passed
  pub terminal_stops_for_a_count : (frame : HFrame) (why : TermFault) → Begins (taken ++ frame ∷ []) passed
      → take_of t frame ≡ Err why → why ≡ fault.CountFull
  -- neither stream shows a fault
  pub no_fault_upwards : (shown more : List ℕ) (fault : MesgFault)
      → stream_of terminal composed ≡ (stream_of terminal handled ++ shown) ++ more
      → Shows terminal (version_after terminal 1 handled) shown fault → ⊥
  pub no_fault_downwards : (shown more : List ℕ) (fault : MesgFault)
      → stream_of host answered ≡ (stream_of host passed ++ shown) ++ more
      → Shows host (version_after host 1 passed) shown fault → ⊥
  -- who has all bytes of a stream, the last of which are no whole frame, has read every message
  pub all_upwards : (rest : List ℕ) → stream_of terminal composed ≡ stream_of terminal handled ++ rest
      → IsOpen terminal (version_after terminal 1 handled) rest → handled ≡ composed
  pub all_downwards : (rest : List ℕ) → stream_of host answered ≡ stream_of host passed ++ rest
      → IsOpen host (version_after host 1 passed) rest → passed ≡ answered

-- ## The laws

abbrev pub ApartSidesJoin : Type 0
ApartSidesJoin =
    (given : List (List ℕ × List ℕ)) (asides : Asides) (entries : List TermLog) (h : PlainHost) (t : PlainTerminal)
    (composed handled : List Tmesg) (answered passed taken : List HFrame)
    → Apart given asides entries h t composed handled answered passed taken
    → Joined given asides entries h t composed handled answered taken

abbrev pub ApartSidesUnderstand : Type 0
ApartSidesUnderstand =
    (given : List (List ℕ × List ℕ)) (asides : Asides) (entries : List TermLog) (h : PlainHost) (t : PlainTerminal)
    (composed handled : List Tmesg) (answered passed taken : List HFrame)
    → Apart given asides entries h t composed handled answered passed taken → Understood h t composed handled answered passed taken
