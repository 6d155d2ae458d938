-- The command lines that were asked for, and are not answered.
use Rattle.std.specs.Prelude.{ℕ, ◌-◌, ◌*◌, ◌/◌, ◌==◌, ◌||◌, max, min, Bool, true, false, not, if◌then◌else◌, List, [], ◌∷◌, ◌++◌, filter, length, take, Option, Some, None}
use Rattle.sam_runes.specs.Texts.{newline}
use Rattle.sam_front.specs.declared.runs.Ran.{Ran}
use Rattle.sam_front.specs.declared.runs.Run.{Run}
use Rattle.sam_front.specs.declared.runs.RunState.{RunState}
use Rattle.sam_front.specs.declared.runs.RunState.TheVariants.{Waits, Begun, Ended}

-- ## The limits

-- so many lines are open at most, and so many runes has each
abbrev pub most_runs : ℕ
most_runs = 1_000

abbrev pub most_line : ℕ
most_line = 400_000

-- so many runes of what a line printed are told at most
abbrev pub most_printed : ℕ
most_printed = 65_536

-- with so many runes the command file is emptied by the next line
abbrev pub most_kept : ℕ
most_kept = 100_000

-- ## What is typed

-- one of the runes is a newline
abbrev pub has_newline : List ℕ → Bool
has_newline [] = false
has_newline (c ∷ cs) = (c == newline) || has_newline cs

-- a line is typed between two newlines: the first ends what may stand before it, and the last one runs it
abbrev pub typed_line : List ℕ → List ℕ
typed_line line = newline ∷ line ++ newline ∷ []

-- how many pieces of 512 runes stand behind the first one, which has as many or fewer
abbrev pub behind_of : ℕ → ℕ
behind_of runes = (runes - 1) / 512

-- how many of so many runes the next piece has, where so many pieces stand behind it: as many as leave whole pieces, but not one alone
abbrev pub piece_of : ℕ → ℕ → ℕ
piece_of runes left = min (max 2 (runes - left * 512)) runes

-- ## How far a line is

abbrev pub new_run : ℕ → Run
new_run request = record { request = request; state = Waits }

-- The newline of a line that waits acts by its request, where the command file has so many runes: what it prints stands behind them. It has
-- run once the command lock is not held any more
abbrev pub state_after : ℕ → Bool → Bool → RunState → RunState
state_after len locked own Waits = if own then Begun len else Waits
state_after len locked own (Begun start) = if locked then Begun start else Ended start len
state_after len locked own (Ended start end) = Ended start end

abbrev pub run_after : ℕ → ℕ → Bool → Run → Run
run_after request len locked r = record r { state = state_after len locked (r.request == request) r.state }

-- what a line printed that has run: at most so many runes of it
abbrev pub ran_by : ℕ → RunState → Option Ran
ran_by request Waits = None
ran_by request (Begun start) = None
ran_by request (Ended start end) = Some (record { request = request; place = start; count = min (end - start) most_printed })

abbrev pub ran_of : Run → Option Ran
ran_of r = ran_by r.request r.state

-- what the oldest line printed, if it has run
abbrev pub first_ran : List Run → Option Ran
first_ran [] = None
first_ran (r ∷ rs) = ran_of r

-- its newline has acted
abbrev pub has_acted : RunState → Bool
has_acted Waits = false
has_acted (Begun start) = true
has_acted (Ended start end) = true

-- ## The list

-- the newest has this number
abbrev pub numbered : ℕ → List Run → List Run
numbered request [] = []
numbered request (r ∷ []) = new_run request ∷ []
numbered request (r ∷ s ∷ rs) = r ∷ numbered request (s ∷ rs)

-- the newest was not begun
abbrev pub taken_back : List Run → List Run
taken_back rs = take (length rs - 1) rs

-- all but the line of this number
abbrev pub without_run : ℕ → List Run → List Run
without_run request rs = filter (λ r. not (r.request == request)) rs
