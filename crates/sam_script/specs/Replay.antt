-- What replaying a script prints, and the script that bytes spell.
use Rattle.std.specs.Prelude.{◌≡◌, ◌⊎◌, ℕ, ◌||◌, if◌then◌else◌, List, [], ◌∷◌, ◌++◌, Option, Some, None, Result, Ok, Err}
use Rattle.sam_term.specs.declared.event.UserEvent.{UserEvent}
use Rattle.sam_crossing.specs.World.{PlainWorld, new_world, step_of, run_of, user_events, joined_files, marked_files}
use Rattle.sam_local.specs.Worlds.{ComesInOrder, IsAsIfLocal}
use Rattle.sam_world.specs.Faults.{is_barred, is_empty_take}
use Rattle.sam_world.specs.Drain.{drained, drain_limit}
use Rattle.sam_crossing.specs.declared.event.Event.{Event}
use Rattle.sam_crossing.specs.declared.event.Event.TheVariants as event
use Rattle.sam_script.specs.Script.{PlainScript}
use Rattle.sam_script.specs.Show.{show_lines}
use Rattle.sam_script.specs.Spelling.{Spells, IsWrongLine}
use Rattle.sam_script.specs.declared.line.Line.{Line}
use Rattle.sam_script.specs.declared.line.Line.TheVariants.{Key, Mouse, Add, Dirty, Act, Flush, Host, Term, Drain, Show}
use Rattle.sam_script.specs.declared.line.Numbered.{Numbered}
use Rattle.sam_script.specs.declared.fault.ScriptFault.{ScriptFault}
use Rattle.sam_script.specs.declared.fault.ScriptFault.TheVariants as fault

-- a step that is none, though it takes nothing from an empty list, adds no file that may not join and marks none that may not be marked,
-- would pass a count
abbrev pub or_full : Option PlainWorld → Result PlainWorld ScriptFault
or_full None = Err fault.CountFull
or_full (Some v) = Ok v

-- the world after the event of a line with this number
abbrev pub stepped : ℕ → PlainWorld → Event → Result PlainWorld ScriptFault
stepped number w e = if is_barred w e || is_empty_take w e then Err (fault.Line number) else or_full (step_of w e)

-- the world after a line
abbrev pub after_line : ℕ → PlainWorld → Line → Result PlainWorld ScriptFault
after_line number w (Key e) = stepped number w (event.User e)
after_line number w (Mouse e) = stepped number w (event.User e)
after_line number w (Add name text) = stepped number w (event.Add name text)
after_line number w (Dirty f) = stepped number w (event.Mark f)
after_line number w Act = stepped number w event.Act
after_line number w Flush = stepped number w event.Flush
after_line number w Host = stepped number w event.HostTake
after_line number w Term = stepped number w event.TermTake
after_line number w Drain = or_full (drained drain_limit w)
after_line number w Show = Ok w

-- what a line prints
abbrev pub printed_by : PlainWorld → Line → List ℕ
printed_by w (Key event) = []
printed_by w (Mouse event) = []
printed_by w (Add name text) = []
printed_by w (Dirty f) = []
printed_by w Act = []
printed_by w Flush = []
printed_by w Host = []
printed_by w Term = []
printed_by w Drain = []
printed_by w Show = show_lines w

-- after what was printed before
abbrev pub after_output : List ℕ → Result (List ℕ) ScriptFault → Result (List ℕ) ScriptFault
after_output before (Ok out) = Ok (before ++ out)
after_output before (Err why) = Err why

abbrev pub and_on : {A : Type 0} → Result PlainWorld ScriptFault → (PlainWorld → Result A ScriptFault) → Result A ScriptFault
and_on (Ok v) rest = rest v
and_on (Err why) rest = Err why

-- what lines print, one after another, up to the first that cannot be done
abbrev pub replayed_from : PlainWorld → List Numbered → Result (List ℕ) ScriptFault
replayed_from w [] = Ok []
replayed_from w (numbered ∷ more) =
    after_output (printed_by w numbered.line) (and_on (after_line numbered.number w numbered.line) (λ v. replayed_from v more))

-- what a script prints, over the first world of its files
unfoldable pub replayed : PlainScript → Result (List ℕ) ScriptFault
replayed script = replayed_from (new_world script.files) script.lines

-- ## As if there were no network

-- the world after lines one after another
abbrev pub after_lines : PlainWorld → List Numbered → Result PlainWorld ScriptFault
after_lines w [] = Ok w
after_lines w (numbered ∷ more) = and_on (after_line numbered.number w numbered.line) (λ v. after_lines v more)

-- what the user does by a line, and by lines
abbrev pub user_of : Line → List UserEvent
user_of (Key e) = e ∷ []
user_of (Mouse e) = e ∷ []
user_of (Add name text) = []
user_of (Dirty f) = []
user_of Act = []
user_of Flush = []
user_of Host = []
user_of Term = []
user_of Drain = []
user_of Show = []

abbrev pub users_of : List Numbered → List UserEvent
users_of [] = []
users_of (numbered ∷ more) = user_of numbered.line ++ users_of more

-- the files that join by a line, and by lines
abbrev pub added_by : Line → List (List ℕ × List ℕ)
added_by (Key e) = []
added_by (Mouse e) = []
added_by (Add name text) = (name, text) ∷ []
added_by (Dirty f) = []
added_by Act = []
added_by Flush = []
added_by Host = []
added_by Term = []
added_by Drain = []
added_by Show = []

abbrev pub all_added : List Numbered → List (List ℕ × List ℕ)
all_added [] = []
all_added (numbered ∷ more) = added_by numbered.line ++ all_added more

-- the files that are marked as dirty by a line, and by lines
abbrev pub marked_in : Line → List ℕ
marked_in (Key e) = []
marked_in (Mouse e) = []
marked_in (Add name text) = []
marked_in (Dirty f) = f ∷ []
marked_in Act = []
marked_in Flush = []
marked_in Host = []
marked_in Term = []
marked_in Drain = []
marked_in Show = []

abbrev pub all_marked : List Numbered → List ℕ
all_marked [] = []
all_marked (numbered ∷ more) = marked_in numbered.line ++ all_marked more

-- The lines are a run in which the user did this, these files joined and these were marked. So w is where what was done in it, in its
-- order, leads the editor without a network, but for the marks; where no file joined or was marked, that is the order of the user's events
pub record WasReplayed (script : PlainScript) (done : List Numbered) (w : PlainWorld) : Type 0 where
  pub events : List Event
  pub leads : run_of (new_world script.files) events ≡ Some w
  pub users : user_events events ≡ users_of done
  pub added : joined_files events ≡ all_added done
  pub marked : marked_files events ≡ all_marked done
  pub order : ComesInOrder script.files events w
  pub alone : all_marked done ≡ [] → all_added done ≡ [] → IsAsIfLocal script.files (users_of done) w

-- Wherever the replay stands, what was done by the lines above has done what it does without a network. So it is in each world that a
-- `show` prints
abbrev pub ReplaysAsIfLocal : PlainScript → Type 0
ReplaysAsIfLocal script =
    (done more : List Numbered) (w : PlainWorld) → script.lines ≡ done ++ more → after_lines (new_world script.files) done ≡ Ok w
    → WasReplayed script done w

-- ## What stops it

-- what a replay stops for: its own fault, or out of memory at any time
abbrev pub IsStopOf : {A : Type 0} → Result A ScriptFault → ScriptFault → Type 0
IsStopOf replay (fault.Line number) = replay ≡ Err (fault.Line number)
IsStopOf replay fault.CountFull = replay ≡ Err fault.CountFull
IsStopOf replay fault.OutOfMemory = Unit {0}

-- ## The script that bytes spell

-- the bytes spell a script of which this holds
abbrev pub OfScript : List ℕ → (PlainScript → Type 0) → Type 0
OfScript bytes P = (script : PlainScript) × Spells bytes script × P script

-- this is what the script that the bytes spell prints, replayed to its end, and each world that it prints is as if there were no network
abbrev pub IsReplay : List ℕ → List ℕ → Type 0
IsReplay bytes printed = OfScript bytes (λ script. (replayed script ≡ Ok printed) × ReplaysAsIfLocal script)

-- the replay of the script stops for this
abbrev pub StopsReplay : ScriptFault → PlainScript → Type 0
StopsReplay why script = IsStopOf (replayed script) why

-- Which fault comes where. The first wrong line comes before anything is done. Where no line is wrong, the replay comes to its own fault.
-- Memory may be short at any time
abbrev pub IsReplayFault : List ℕ → ScriptFault → Type 0
IsReplayFault bytes (fault.Line number) = IsWrongLine bytes number ⊎ OfScript bytes (StopsReplay (fault.Line number))
IsReplayFault bytes fault.CountFull = OfScript bytes (StopsReplay fault.CountFull)
IsReplayFault bytes fault.OutOfMemory = Unit {0}
