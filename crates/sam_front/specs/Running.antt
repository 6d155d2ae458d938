-- How a front asks for a command line.
use Rattle.std.specs.Prelude.{◌≡◌, ◌⊎◌, ℕ, zero, suc, ◌+◌, ◌-◌, ◌==◌, ◌&&◌, ◌||◌, nat_le, nat_lt, Bool, true, false, not, if◌then◌else◌, List, [], ◌∷◌, ◌++◌, drop, take, length, Option, Some, None, is_some, unwrap_or, Result, Ok, Err}
use Rattle.sam_runes.specs.Checks.{first_of_checks}
use Rattle.sam_term.specs.Term as terms
use Rattle.sam_term.specs.declared.event.UserEvent.{UserEvent}
use Rattle.sam_term.specs.declared.event.UserEvent.TheVariants as event
use Rattle.sam_overlay.specs.Ordered.{most_waiting_requests}
use Rattle.sam_overlay.specs.Requests.{is_closing}
use Rattle.sam_overlay.specs.declared.fault.AskFault.{AskFault}
use Rattle.sam_overlay.specs.declared.fault.AskFault.TheVariants as ask
use Rattle.sam_front.specs.Fronts.{Asks, can_be_written, command_len, requests_of, term_of, with_runs}
use Rattle.sam_front.specs.Runs.{behind_of, has_newline, most_kept, most_line, most_runs, new_run, numbered, piece_of, taken_back, typed_line}
use Rattle.sam_front.specs.declared.fault.RunFault.{RunFault}
use Rattle.sam_front.specs.declared.fault.RunFault.TheVariants as unrun
use Rattle.sam_front.specs.declared.front.Front.{Front}

-- ## What stands against a line

abbrev pub is_open : Front → ℕ → Bool
is_open f tag = terms.is_open (term_of f) tag

-- the file is open, and no request waits that closes it: the line would find another file
abbrev pub can_be_run : Front → ℕ → Bool
can_be_run f tag = can_be_written f tag && not (is_closing f.client.ordered.queue tag)

-- why the line is not asked for, in the order of the tests. It has a request for each piece that is typed, and three others at most
abbrev pub run_fault : Front → ℕ → List ℕ → Option RunFault
run_fault f tag line =
    first_of_checks (
    (has_newline line, unrun.NotLine)
    ∷ (not (can_be_run f tag), unrun.NotOpen)
    ∷ (nat_lt most_line (length line), unrun.TooLong)
    ∷ (
      nat_le most_runs (length f.runs) || nat_lt (most_waiting_requests - (behind_of (length line + 2) + 4)) (requests_of f),
      unrun.Ask ask.TooMany,
    )
    ∷ [])

-- how many runes the command file has, if the next line is to empty it: it has many, and no line is open
abbrev pub to_empty : Front → Option ℕ
to_empty f = if (length f.runs == 0) && nat_le most_kept (command_len f) then Some (command_len f) else None

-- ## One request after another

-- what comes next, if the request was taken; else that is why the line is not asked for
abbrev pub Then : Result ℕ AskFault → Front → Result ℕ AskFault → Front → Type 0 → Type 0
Then (Ok request) m answer n others = others
Then (Err why) m answer n others = (answer ≡ Err why) × (n ≡ m)

abbrev pub AsksIf : Bool → Front → UserEvent → Result ℕ AskFault → Front → Type 0
AsksIf false f event answer n = (answer ≡ Ok 0) × (n ≡ f)
AsksIf true f event answer n = Asks f event answer n

-- the runes are to be typed in the command file, as one event; or memory for them was refused
abbrev pub TypesOne : Front → List ℕ → Result ℕ AskFault → Front → Type 0
TypesOne f piece answer n = Asks f (event.Typed 0 piece) answer n ⊎ ((answer ≡ Err ask.OutOfMemory) × (n ≡ f))

-- the runes are to be typed in pieces, of which so many, of 512 runes each or one fewer, stand behind the first
abbrev pub TypesIn : ℕ → Front → List ℕ → Result ℕ AskFault → Front → Type 0
TypesIn zero f typed answer n = TypesOne f typed answer n
TypesIn (suc left) f typed answer n =
    (first : Result ℕ AskFault) × (m : Front) × TypesOne f (take (piece_of (length typed) (suc left)) typed) first m
    × Then first m answer n (TypesIn left m (drop (piece_of (length typed) (suc left)) typed) answer n)

-- the command file is to be opened: it is not open, and no line that is open asked for that
abbrev pub opens : Front → Bool
opens f = not (is_open f 0) && (length f.runs == 1)

-- the command file is opened, if it is to be; the file becomes the work file; the command file is selected whole, if it is to be
-- emptied; and the line is typed. The answer is the number of the last request, or why one is not taken
abbrev pub AsksLine : Front → ℕ → Option ℕ → List ℕ → Result ℕ AskFault → Front → Type 0
AsksLine f tag emptied typed answer n =
    (a : Result ℕ AskFault) × (g : Front) × AsksIf (opens f) f event.OpenCmd a g
    × Then a g answer n (
    (b : Result ℕ AskFault) × (h : Front) × Asks g (event.Work tag) b h
    × Then b h answer n (
    (d : Result ℕ AskFault) × (i : Front) × AsksIf (is_some emptied) h (event.Select 0 0 (unwrap_or emptied 0)) d i
    × Then d i answer n (TypesIn (behind_of (length typed)) i typed answer n)))

-- ## A line

-- the line has the number of its last request; or none of it is open
abbrev pub HasRun : Front → Result ℕ AskFault → Result ℕ RunFault → Front → Type 0
HasRun m (Ok request) answer n = (answer ≡ Ok request) × (n ≡ with_runs m (numbered request m.runs))
HasRun m (Err why) answer n = (answer ≡ Err (unrun.Ask why)) × (n ≡ with_runs m (taken_back m.runs))

-- a line is opened behind the others, and asked for; or there was no memory for it, and all is as before
abbrev pub RunsFound : Front → ℕ → List ℕ → Result ℕ RunFault → Front → Type 0
RunsFound f tag typed answer n =
    ((asked : Result ℕ AskFault) × (m : Front)
    × AsksLine (with_runs f (f.runs ++ new_run 0 ∷ [])) tag (to_empty f) typed asked m × HasRun m asked answer n)
    ⊎ ((answer ≡ Err (unrun.Ask ask.OutOfMemory)) × (n ≡ f))

abbrev pub RunsUnless : Option RunFault → Front → ℕ → List ℕ → Result ℕ RunFault → Front → Type 0
RunsUnless (Some why) f tag line answer n = (answer ≡ Err why) × (n ≡ f)
RunsUnless None f tag line answer n = RunsFound f tag (typed_line line) answer n

abbrev pub RunsLine : Front → ℕ → List ℕ → Result ℕ RunFault → Front → Type 0
RunsLine f tag line answer n = RunsUnless (run_fault f tag line) f tag line answer n
