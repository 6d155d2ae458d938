-- A front: a client, with the numbers of its requests, what the host's program has to answer, and what is loaded. Times are in
-- milliseconds.
use Rattle.std.specs.Prelude.{◌≡◌, ◌⊎◌, ◌↔◌, ℕ, ◌+◌, ◌-◌, ◌^◌, ◌<◌, ◌==◌, ◌&&◌, ◌||◌, Bool, true, false, not, max, min, nat_le, nat_lt, if◌then◌else◌, List, [], ◌∷◌, drop, length, map, slice_get, Option, Some, None, is_some, option_map, Result, Ok, Err}
use Rattle.std.specs.List.{find}
use Rattle.sam_link.specs.declared.fault.NoteFault.{NoteFault}
use Rattle.sam_link.specs.declared.fault.NoteFault.TheVariants as note
use Rattle.sam_link.specs.declared.hello.Id.{Id}
use Rattle.sam_line.specs.Calls.LineCall.{Expect}
use Rattle.sam_line.specs.declared.clock.State.{State}
use Rattle.sam_line.specs.declared.clock.State.TheVariants as state
use Rattle.sam_note.specs.Calls.{Reads, Refuses}
use Rattle.sam_note.specs.Messages.{Message, most_bytes, spelled}
use Rattle.sam_note.specs.declared.fault.NoteFault.{NoteFault as MessageFault}
use Rattle.sam_note.specs.declared.fault.NoteFault.TheVariants as message
use Rattle.sam_note.specs.declared.kind.NoteKind.{NoteKind}
use Rattle.sam_note.specs.declared.kind.NoteKind.TheVariants as kind
use Rattle.sam_note.specs.declared.note.Head.{Head}
use Rattle.sam_note.specs.declared.note.Note.{Note}
use Rattle.sam_term.specs.Term.{PlainTerminal, is_any_locked, is_open, rasp_at}
use Rattle.sam_term.specs.declared.event.UserEvent.{UserEvent}
use Rattle.sam_term.specs.declared.event.UserEvent.TheVariants as event
use Rattle.sam_term.specs.declared.fault.Refusal.{Refusal}
use Rattle.sam_endpoint.specs.declared.step.TermStep.{TermStep}
use Rattle.sam_endpoint.specs.declared.step.TermStep.TheVariants as step
use Rattle.sam_overlay.specs.Calls.{gap_from, has_edit_at, shown_at}
use Rattle.sam_overlay.specs.Numbers.{after_asking, after_telling, no_numbers, number_of, told_number}
use Rattle.sam_overlay.specs.declared.fault.AskFault.{AskFault}
use Rattle.sam_overlay.specs.declared.fault.AskFault.TheVariants as ask
use Rattle.sam_overlay.specs.declared.shown_change.Asked.{Asked}
use Rattle.sam_client.specs.Clients.{Act, Does, new_client}
use Rattle.sam_client.specs.Clients.Act.{OfLine, Request}
use Rattle.sam_client.specs.Going.{GoesOn, IfIdle, Rests, most_moves}
use Rattle.sam_client.specs.Notes.{PutsNote}
use Rattle.sam_client.specs.declared.client.Client.{Client}
use Rattle.sam_client.specs.declared.event.Event.{Event}
use Rattle.sam_client.specs.declared.event.Event.TheVariants as tell
use Rattle.sam_client.specs.declared.fault.GoOnFault.{GoOnFault}
use Rattle.sam_client.specs.declared.fault.GoOnFault.TheVariants as stop
use Rattle.sam_front.specs.Loader.{acted, ended, first_slice, gaps_of, is_locked, is_slice, is_view, later, new_loader, next_at, not_before, page, refused, rest_time, stepped, stretch_of}
use Rattle.sam_front.specs.Runs.{first_ran, has_acted, run_after, without_run}
use Rattle.sam_front.specs.Tasks.{Begins, PlainTasks, Shares, closed, is_due, no_tasks, number_of_write, place_of, said}
use Rattle.sam_front.specs.Tasks as tasks
use Rattle.sam_front.specs.declared.fault.BeginFault.{BeginFault}
use Rattle.sam_front.specs.declared.fault.BeginFault.TheVariants.{BadField, BadLength, BadPath, CountFull, OutOfMemory, TooMany}
use Rattle.sam_front.specs.declared.fault.WriteFault.{WriteFault}
use Rattle.sam_front.specs.declared.fault.WriteFault.TheVariants as unwritten
use Rattle.sam_front.specs.declared.front.Front.{Front}
use Rattle.sam_front.specs.declared.loader.Next.{Next}
use Rattle.sam_front.specs.declared.loader.Next.TheVariants as next
use Rattle.sam_front.specs.declared.loader.Slice.{Slice}
use Rattle.sam_front.specs.declared.loader.Stretch.{Stretch}
use Rattle.sam_front.specs.declared.runs.Ran.{Ran}
use Rattle.sam_front.specs.declared.runs.Run.{Run}
use Rattle.sam_front.specs.declared.tasks.Task.{Task}
use Rattle.sam_front.specs.declared.told.Order.{Order}
use Rattle.sam_front.specs.declared.told.Order.TheVariants as order
use Rattle.sam_front.specs.declared.told.Told.{Told}
use Rattle.sam_front.specs.declared.told.Told.TheVariants as told

abbrev pub new_front : Id → Bool → ℕ → Front
new_front id take_over now = record {
  client = new_client id take_over now;
  numbers = no_numbers;
  asked = 0;
  tasks = no_tasks;
  runs = [];
  loader = new_loader;
  told = 0;
  loads_at = None;
  expects = false;
  has_typed = false;
  is_over = false;
}

-- ## The parts

abbrev pub with_client : Front → Client → Front
with_client f c = record f { client = c }

abbrev pub with_tasks : Front → PlainTasks → Front
with_tasks f t = record f { tasks = t }

abbrev pub with_runs : Front → List Run → Front
with_runs f rs = record f { runs = rs }

-- so many requests wait
abbrev pub requests_of : Front → ℕ
requests_of f = length f.client.ordered.queue

abbrev pub term_of : Front → PlainTerminal
term_of f = f.client.ordered.overlay.end.term

-- how many runes and gaps the command file has; 0 if it is not open
abbrev pub command_len : Front → ℕ
command_len f = if is_open (term_of f) 0 then length (shown_at f.client.ordered.overlay 0) else 0

-- the client does it, and all else stays
abbrev pub ActsOne : Front → Act → Front → Type 0
ActsOne f act n = Does f.client act n.client × (n ≡ with_client f n.client)

-- so it does by what the user types
abbrev pub Types : Front → Act → Front → Type 0
Types f act n = Does f.client act n.client × (n ≡ record f { client = n.client; has_typed = true })

-- ## Requests

-- a request that was taken has its number
abbrev pub Numbers : Front → Result Asked AskFault → Result ℕ AskFault → Front → Type 0
Numbers f (Ok x) answer n =
    let number = number_of f.numbers (requests_of n) x in
    (answer ≡ Ok number) × (n ≡ record f { client = n.client; numbers = after_asking f.numbers x; asked = max f.asked number })
Numbers f (Err why) answer n = (answer ≡ Err why) × (n ≡ with_client f n.client)

-- the request is taken, and numbered; none is once there are no more numbers
abbrev pub AsksUnless : Bool → Front → UserEvent → Result ℕ AskFault → Front → Type 0
AsksUnless true f event answer n = (answer ≡ Err ask.CountFull) × (n ≡ f)
AsksUnless false f event answer n =
    (result : Result Asked AskFault) × Does f.client (Request event result) n.client × Numbers f result answer n

abbrev pub Asks : Front → UserEvent → Result ℕ AskFault → Front → Type 0
Asks f event answer n = AsksUnless (f.numbers.taken == 2 ^ 64 - 1) f event answer n

-- ## Messages

abbrev pub kind_of : Order → NoteKind
kind_of order.Open = kind.Open
kind_of order.Complete = kind.Complete
kind_of order.Reload = kind.Reload

-- the message of a task of this number
abbrev pub task_message : NoteKind → ℕ → ℕ → List ℕ → Message
task_message k number tag path = record {
  kind = k;
  request = number;
  tag = tag;
  code = 0;
  number = 0;
  path = path;
  copy = [];
  text = [];
}

abbrev pub write_fault : MessageFault → BeginFault
write_fault message.BadKind = BadField
write_fault message.BadField = BadField
write_fault message.BadLength = BadLength
write_fault message.BadPath = BadPath
write_fault message.BadText = BadField

abbrev pub put_fault : NoteFault → BeginFault
put_fault note.TooLong = BadLength
put_fault note.CountFull = CountFull
put_fault note.OutOfMemory = OutOfMemory

-- the message goes into the line as a note. Or why not: it is none that can be written, and all stays; or the line does not take it
abbrev pub Says : Front → Message → ℕ → Result (Unit {0}) BeginFault → Front → Type 0
Says f m now (Ok done) n = Refuses m most_bytes None × PutsNote f.client (spelled m) now (Ok tt) n.client × (n ≡ with_client f n.client)
Says f m now (Err TooMany) n = ⊥
Says f m now (Err BadField) n = Refuses m most_bytes (Some message.BadField) × (n ≡ f)
Says f m now (Err BadLength) n = Refuses m most_bytes (Some message.BadLength) × (n ≡ f)
Says f m now (Err BadPath) n = Refuses m most_bytes (Some message.BadPath) × (n ≡ f)
Says f m now (Err CountFull) n =
    Refuses m most_bytes None × PutsNote f.client (spelled m) now (Err note.CountFull) n.client × (n ≡ with_client f n.client)
Says f m now (Err OutOfMemory) n =
    Refuses m most_bytes None × PutsNote f.client (spelled m) now (Err note.OutOfMemory) n.client × (n ≡ with_client f n.client)

-- ## Tasks

-- A task is begun, and its message goes into the line. Or why not, and none is: there is no room for one more, and all stays; or its
-- message does not go into the line
abbrev pub BeginsTask : Front → Order → ℕ → List ℕ → ℕ → Result ℕ BeginFault → Front → Type 0
BeginsTask f o tag path now (Ok number) n =
    Begins f.tasks (Ok number) n.tasks × Says (with_tasks f n.tasks) (task_message (kind_of o) number tag path) now (Ok tt) n
BeginsTask f o tag path now (Err why) n =
    (Begins f.tasks (Err why) f.tasks × (n ≡ f))
    ⊎ ((number : ℕ) × (t : PlainTasks) × (m : Front) × Begins f.tasks (Ok number) t
    × Says (with_tasks f t) (task_message (kind_of o) number tag path) now (Err why) m × (n ≡ with_tasks m f.tasks))

-- A write is asked for, and it is a task, or that of the write which it shares. Or why not, and no task is begun
abbrev pub WritesTask : Front → ℕ → Result ℕ WriteFault → Front → Type 0
WritesTask f tag (Ok number) n =
    (newest request : ℕ) × (t : PlainTasks) × (m : Front) × Begins f.tasks (Ok newest) t
    × Asks (with_tasks f t) (event.Write tag) (Ok request) m
    × Shares t request tag number n.tasks × (n ≡ with_tasks m n.tasks)
WritesTask f tag (Err (unwritten.Begin why)) n = Begins f.tasks (Err why) f.tasks × (n ≡ f)
WritesTask f tag (Err (unwritten.Ask why)) n =
    (newest : ℕ) × (t : PlainTasks) × (m : Front) × Begins f.tasks (Ok newest) t × Asks (with_tasks f t) (event.Write tag) (Err why) m
    × (n ≡ with_tasks m f.tasks)

-- ## What is waited for

-- the host has something to answer: a task, or what a lock or a held event is about
abbrev pub Waits : Front → Type 0
Waits f =
    (0 < length f.tasks.waiting) ⊎ ((term_of f).command_lock ≡ true) ⊎ (0 < length (term_of f).held)
    ⊎ (is_any_locked (term_of f).files ≡ true)

-- the line knows at this time whether an answer is due: the program waits for one, or the host has something to answer
abbrev pub Knows : Front → ℕ → Front → Type 0
Knows f now n =
    (due : Bool) × ((due ≡ true) ↔ ((f.expects ≡ true) ⊎ Waits f)) × ActsOne f (OfLine (Expect due now)) n

-- the sooner of what is due and a load
abbrev pub sooner : Option ℕ → Option ℕ → Option ℕ
sooner a None = a
sooner None (Some b) = Some b
sooner (Some a) (Some b) = Some (min a b)

-- ## Going on

-- the terminal takes a write of the file
abbrev pub can_be_written : Front → ℕ → Bool
can_be_written f tag = nat_lt 0 tag && (is_open (term_of f) tag && not (term_of f).has_exited)

abbrev pub if_written : Front → Option Task → Option Task
if_written f None = None
if_written f (Some t) = if can_be_written f t.tag then Some t else None

-- the write that acts next, since all requests before it are told, if the terminal takes it and its message is not put
abbrev pub due_write : Front → Option Task
due_write f = if_written f (find (is_due f.told) f.tasks.waiting)

abbrev pub say_fault : BeginFault → GoOnFault
say_fault CountFull = stop.CountFull
say_fault TooMany = stop.OutOfMemory
say_fault BadField = stop.OutOfMemory
say_fault BadLength = stop.OutOfMemory
say_fault BadPath = stop.OutOfMemory
say_fault OutOfMemory = stop.OutOfMemory

abbrev pub SaysTask : Front → Option Task → ℕ → Result (Unit {0}) GoOnFault → Front → Type 0
SaysTask f None now answer n = (answer ≡ Ok tt) × (n ≡ f)
SaysTask f (Some t) now (Ok done) n =
    Says f (task_message kind.Write t.number t.tag []) now (Ok tt) (with_tasks n f.tasks)
    × (n.tasks ≡ record f.tasks { waiting = map (said t.number) f.tasks.waiting })
SaysTask f (Some t) now (Err why) n =
    (fault : BeginFault) × Says f (task_message kind.Write t.number t.tag []) now (Err fault) n × (why ≡ say_fault fault)

-- the message of the write that acts next goes into the line, if it is not put
abbrev pub SaysWrite : Front → ℕ → Result (Unit {0}) GoOnFault → Front → Type 0
SaysWrite f now answer n = SaysTask f (due_write f) now answer n

-- where the user typed, the loader rests
abbrev pub rested : Front → ℕ → Front
rested f now =
    if f.has_typed then record f { has_typed = false; loader = record f.loader { rests_until = later now rest_time } } else f

-- one that was told before is not told again
abbrev pub once : ℕ → ℕ → ℕ
once told number = if nat_le number told then 0 else number

-- the number of the request that a step tells of; 0 if it tells of none
abbrev pub request_of : Front → TermStep → ℕ
request_of f s = once f.told (told_number f.numbers (requests_of f) s)

-- the step is told
abbrev pub telling : Front → TermStep → Front
telling f s = record f { numbers = after_telling f.numbers (requests_of f) s; told = max f.told (request_of f s) }

-- the refusal of a load is not told. Any other closes the task and the command line of its request, and the task is told with it
abbrev pub TellsRefusal : Bool → Front → ℕ → Refusal → ℕ → ℕ → Told → Front → Type 0
TellsRefusal true f number why request now answer n = (answer ≡ told.Busy) × (n ≡ record f { loader = refused f.loader request now })
TellsRefusal false f number why request now answer n =
    (answer ≡ told.Refused (record { event = number; why = why; request = request; task = number_of_write request f.tasks.waiting }))
    × (n ≡ with_runs (with_tasks f (closed (number_of_write request f.tasks.waiting) f.tasks)) (without_run request f.runs))

-- such a message answers the task that has its request's number
abbrev pub is_answer : NoteKind → Bool
is_answer kind.Opened = true
is_answer kind.Refused = true
is_answer kind.Names = true
is_answer kind.Anew = true
is_answer kind.Saved = true
is_answer kind.NotSaved = true
is_answer k = false

abbrev pub ends : NoteKind → Bool
ends kind.TakenOver = true
ends kind.Ended = true
ends k = false

abbrev pub answers : Head → PlainTasks → Bool
answers h t = is_answer h.kind && is_some (place_of h.request t.waiting)

-- what is told of a note: the task that it answers, if it answers one that is open, which is closed by it
abbrev pub heard : Front → Result Note MessageFault → Told
heard f (Err why) = told.Note
heard f (Ok x) = if answers x.head f.tasks then told.Answered x.head.request else told.Note

abbrev pub hearing : Front → Result Note MessageFault → Front
hearing f (Err why) = f
hearing f (Ok x) = record f {
  is_over = f.is_over || ends x.head.kind;
  tasks = if answers x.head f.tasks then closed x.head.request f.tasks else f.tasks;
}

abbrev pub Hears : Front → Told → Front → Type 0
Hears f answer n = (read : Result Note MessageFault) × Reads f.client.note read × (answer ≡ heard f read) × (n ≡ hearing f read)

-- ## Loading

-- the load is what is being loaded, if it was taken
abbrev pub Begun : Front → ℕ → ℕ → ℕ → Result ℕ AskFault → Result Bool GoOnFault → Front → Type 0
Begun m tag gaps now (Ok request) answer n =
    (answer ≡ Ok true)
    × (n ≡ record m {
      loader = record m.loader { slice = Some (record { request = request; tag = tag; count = gaps; since = now; has_acted = false }) };
    })
Begun m tag gaps now (Err ask.Waiting) answer n = (answer ≡ Ok false) × (n ≡ m)
Begun m tag gaps now (Err ask.TooMany) answer n = (answer ≡ Ok false) × (n ≡ m)
Begun m tag gaps now (Err ask.CountFull) answer n = (answer ≡ Ok false) × (n ≡ m)
Begun m tag gaps now (Err ask.OutOfMemory) answer n = (answer ≡ Err stop.OutOfMemory) × (n ≡ m)

abbrev pub BeginsLoad : Front → ℕ → ℕ → Stretch → ℕ → Result Bool GoOnFault → Front → Type 0
BeginsLoad f tag place s now answer n =
    (result : Result ℕ AskFault) × (m : Front) × Asks f (event.Load tag place s.count) result m × Begun m tag s.gaps now result answer n

-- of an open file so much is asked for as is loaded at once
abbrev pub LoadsStretch : Bool → Front → ℕ → ℕ → ℕ → ℕ → Result Bool GoOnFault → Front → Type 0
LoadsStretch false f tag place count now answer n = (answer ≡ Ok false) × (n ≡ f)
LoadsStretch true f tag place count now answer n = BeginsLoad f tag place (stretch_of (rasp_at (term_of f) tag) place count) now answer n

abbrev pub LoadsNext : Front → Next → ℕ → Result Bool GoOnFault → Front → Type 0
LoadsNext f next.Nothing now answer n = (answer ≡ Ok false) × (n ≡ f)
LoadsNext f (next.Wait time) now answer n = (answer ≡ Ok false) × (n ≡ record f { loads_at = Some time })
LoadsNext f (next.Load tag place count) now answer n = LoadsStretch (is_open (term_of f) tag) f tag place count now answer n

abbrev pub is_open_state : State → Bool
is_open_state (state.Down time) = false
is_open_state (state.Connecting time) = false
is_open_state state.Open = true
is_open_state (state.Late time) = false
is_open_state (state.Lost why) = false

-- a load may begin: no request waits, the session goes on, and the line is open
abbrev pub may_load : Front → Bool
may_load f = requests_of f == 0 && (not (term_of f).has_exited && is_open_state f.client.line.clock.state)

-- where there is no line, the size of a slice is found anew over the next one
abbrev pub sized : Front → Front
sized f = if is_open_state f.client.line.clock.state then f else record f { loader = record f.loader { size = first_slice } }

-- the first place of what a command line printed whose rune is not loaded, if there is one
abbrev pub gap_before : ℕ → Option ℕ → Option ℕ
gap_before end None = None
gap_before end (Some gap) = if nat_lt gap end then Some gap else None

abbrev pub end_of : Ran → ℕ
end_of r = min (r.place + r.count) (2 ^ 32 - 1)

abbrev pub missing_of : Front → Ran → Option ℕ
missing_of f r =
    gap_before (end_of r) (if is_open (term_of f) 0 then gap_from r.place (shown_at f.client.ordered.overlay 0) else None)

-- what the oldest command line printed comes first, as much as is loaded at once, once it has run and the command file is free; else what
-- the loader says
abbrev pub load_missing : Front → Ran → Option ℕ → ℕ → Next → Next
load_missing f r None now other = other
load_missing f r (Some gap) now other =
    if is_locked (term_of f) 0 then other
    else not_before f.loader.pauses_until now (next.Load 0 gap (min (end_of r - gap) (max f.loader.size page)))

abbrev pub load_ran : Front → Option Ran → ℕ → Next → Next
load_ran f None now other = other
load_ran f (Some r) now other = load_missing f r (missing_of f r) now other

abbrev pub next_load : Front → ℕ → Next
next_load f now = load_ran f (first_ran f.runs) now (next_at (gaps_of f.client.ordered.overlay) f.loader now)

abbrev pub BeginsSlice : Bool → Front → ℕ → Result Bool GoOnFault → Front → Type 0
BeginsSlice false f now answer n = (answer ≡ Ok false) × (n ≡ sized f)
BeginsSlice true f now answer n = LoadsNext f (next_load f now) now answer n

-- what was being loaded has come: its request has acted, and its file is free
abbrev pub has_come : Front → Slice → Bool
has_come f s = s.has_acted && not (is_locked (term_of f) s.tag)

-- the request that empties a view is noted, if it was taken
abbrev pub Empties : Front → Result ℕ AskFault → Result (Unit {0}) GoOnFault → Front → Type 0
Empties m (Ok request) answer n = (answer ≡ Ok tt) × (n ≡ record m { loader = record m.loader { view = Some request } })
Empties m (Err ask.Waiting) answer n = (answer ≡ Ok tt) × (n ≡ m)
Empties m (Err ask.TooMany) answer n = (answer ≡ Ok tt) × (n ≡ m)
Empties m (Err ask.CountFull) answer n = (answer ≡ Ok tt) × (n ≡ m)
Empties m (Err ask.OutOfMemory) answer n = (answer ≡ Err stop.OutOfMemory) × (n ≡ m)

abbrev pub AsksView : Front → ℕ → Result (Unit {0}) GoOnFault → Front → Type 0
AsksView f tag answer n = (result : Result ℕ AskFault) × (m : Front) × Asks f (event.View tag 0 0) result m × Empties m result answer n

-- the view of the file is emptied, so that the terminal asks for nothing by itself, unless an edit waits over the file
abbrev pub EmptiesView : Bool → Front → ℕ → Result (Unit {0}) GoOnFault → Front → Type 0
EmptiesView true f tag answer n = (answer ≡ Ok tt) × (n ≡ f)
EmptiesView false f tag answer n = AsksView f tag answer n

abbrev pub Ended : Front → Result (Unit {0}) GoOnFault → ℕ → Result Bool GoOnFault → Front → Type 0
Ended m (Ok done) now answer n =
    (answer ≡ Ok true) × (n ≡ record m { loader = ended m.loader m.client.line.question.round_trip now })
Ended m (Err why) now answer n = (answer ≡ Err why) × (n ≡ m)

-- once what was being loaded has come, its view is emptied, and it ends
abbrev pub EndsSlice : Bool → Front → Slice → ℕ → Result Bool GoOnFault → Front → Type 0
EndsSlice false f s now answer n = (answer ≡ Ok false) × (n ≡ f)
EndsSlice true f s now answer n =
    (emptied : Result (Unit {0}) GoOnFault) × (m : Front)
    × EmptiesView (has_edit_at f.client.ordered.overlay s.tag) f s.tag emptied m × Ended m emptied now answer n

abbrev pub LoadsBy : Front → Option Slice → ℕ → Result Bool GoOnFault → Front → Type 0
LoadsBy f None now answer n = BeginsSlice (may_load f) f now answer n
LoadsBy f (Some s) now answer n = EndsSlice (has_come f s) f s now answer n

-- what is loaded goes on: what was being loaded has come, or the next load is asked for; the answer says whether something was done
abbrev pub Loads : Front → ℕ → Result Bool GoOnFault → Front → Type 0
Loads f now answer n = LoadsBy f f.loader.slice now answer n

-- ## The end of a session

abbrev pub is_lost_state : State → Bool
is_lost_state (state.Lost why) = true
is_lost_state s = false

-- the session is over: a message said so, or the host refused the line
abbrev pub is_lost : Front → Bool
is_lost f = f.is_over || is_lost_state f.client.line.clock.state

-- The oldest task is told as one without an answer. Once none is left, the oldest command line whose newline has acted is told as lapsed;
-- then each request that was not told, one by one; then nothing
abbrev pub acted_run : Run → Option ℕ
acted_run r = if has_acted r.state then Some r.request else None

abbrev pub told_run_in : List Run → Option ℕ
told_run_in [] = None
told_run_in (r ∷ rs) = acted_run r

abbrev pub told_run : Front → Option ℕ
told_run f = told_run_in f.runs

-- without that line
abbrev pub without_ran : Front → Front
without_ran f = if is_some (told_run f) then with_runs f (drop 1 f.runs) else f

abbrev pub lapsed_request : Front → Told
lapsed_request f = if nat_le f.asked f.told then told.Idle else told.Lapsed (f.told + 1)

abbrev pub lapsed_run : Front → Option ℕ → Told
lapsed_run f None = lapsed_request f
lapsed_run f (Some request) = told.Lapsed request

abbrev pub lapsed_task : Front → Option ℕ → Told
lapsed_task f None = lapsed_run f (told_run f)
lapsed_task f (Some number) = told.Unanswered number

abbrev pub first_task : Front → Option ℕ
first_task f = option_map tasks.number_of (slice_get f.tasks.waiting 0)

abbrev pub lapsed : Front → Told
lapsed f = lapsed_task f (first_task f)

abbrev pub lapsing_request : Front → Front
lapsing_request f =
    if nat_le f.asked f.told then f else record f { told = f.told + 1; runs = without_run (f.told + 1) f.runs }

abbrev pub lapsing_run : Front → Option ℕ → Front
lapsing_run f None = lapsing_request f
lapsing_run f (Some request) = with_runs f (drop 1 f.runs)

abbrev pub lapsing_task : Front → Option ℕ → Front
lapsing_task f None = lapsing_run f (told_run f)
lapsing_task f (Some number) = with_tasks f (record f.tasks { waiting = drop 1 f.tasks.waiting })

abbrev pub lapsing : Front → Front
lapsing f = lapsing_task f (first_task f)

-- ## What a client told

abbrev pub Settles : Front → Result Bool GoOnFault → ℕ → Result Told GoOnFault → Front → Type 0
Settles f (Ok true) now answer n = (answer ≡ Ok told.Busy) × (n ≡ f)
Settles f (Ok false) now answer n = (answer ≡ Ok told.Idle) × Knows f now n
Settles f (Err why) now answer n = (answer ≡ Err why) × (n ≡ f)

-- what the oldest command line printed, if it has run and all that is told of it is loaded
abbrev pub if_loaded : Front → Ran → Option ℕ → Option Ran
if_loaded f r None = Some r
if_loaded f r (Some gap) = None

abbrev pub ended_in : Front → Option Ran → Option Ran
ended_in f None = None
ended_in f (Some r) = if_loaded f r (missing_of f r)

abbrev pub ended_run : Front → Option Ran
ended_run f = ended_in f (first_ran f.runs)

-- where the user has left, the oldest command line whose newline has acted
abbrev pub left_run : Front → Option ℕ
left_run f = if (term_of f).has_exited then told_run f else None

-- without that line
abbrev pub without_left : Front → Front
without_left f = if (term_of f).has_exited then without_ran f else f

abbrev pub Leaving : Option ℕ → Front → ℕ → Result Told GoOnFault → Front → Type 0
Leaving (Some request) f now answer n = (answer ≡ Ok (told.Lapsed request)) × (n ≡ without_left f)
Leaving None f now answer n = (loads : Result Bool GoOnFault) × (m : Front) × Loads f now loads m × Settles m loads now answer n

-- Of a session that is over, what is left open is told one by one. Where the user has left, a command line of which not all is loaded
-- lapses. Else texts are loaded; where there is nothing to load now either, the line learns whether an answer is due
abbrev pub Loading : Bool → Front → ℕ → Result Told GoOnFault → Front → Type 0
Loading true f now answer n = (answer ≡ Ok (lapsed f)) × (n ≡ lapsing f)
Loading false f now answer n = Leaving (left_run f) f now answer n

-- where the client rests, a command line that has run is told
abbrev pub Idles : Option Ran → Front → ℕ → Result Told GoOnFault → Front → Type 0
Idles (Some r) f now answer n = (answer ≡ Ok (told.Ran r)) × (n ≡ with_runs f (drop 1 f.runs))
Idles None f now answer n = Loading (is_lost f) f now answer n

-- a step is told with the number of its request, a load that acts and a command line that begins or ends are noted, and for a while no
-- slice is loaded
abbrev pub stepping : Front → TermStep → ℕ → Front
stepping f s now = record (telling f s) {
  loader = stepped (record f.loader { slice = acted f.loader.slice (request_of f s) }) now;
  runs = map (run_after (request_of f s) (command_len f) (term_of f).command_lock) f.runs;
}

-- the request is a load, or the last one that emptied a view
abbrev pub is_own : Front → ℕ → Bool
is_own f request = is_slice f.loader.slice request || is_view f.loader.view request

abbrev pub Tells : Front → Result Event GoOnFault → ℕ → Result Told GoOnFault → Front → Type 0
Tells f (Ok tell.Idle) now answer n = Idles (ended_run f) f now answer n
Tells f (Ok tell.Busy) now answer n = (answer ≡ Ok told.Busy) × (n ≡ f)
Tells f (Ok tell.Note) now answer n = (x : Told) × Hears f x n × (answer ≡ Ok x)
Tells f (Ok (tell.Stepped x)) now answer n = (answer ≡ Ok (told.Stepped x (request_of f x.step))) × (n ≡ stepping f x.step now)
Tells f (Ok (tell.Refused number why)) now answer n =
    (x : Told)
    × TellsRefusal (is_own f (request_of f (step.Refused number why))) (telling f (step.Refused number why)) number why
    (request_of f (step.Refused number why)) now x n
    × (answer ≡ Ok x)
Tells f (Err why) now answer n = (answer ≡ Err why) × (n ≡ f)

-- the client goes on, unless the message of a write did not go into the line
abbrev pub GoesBehind : Front → Result (Unit {0}) GoOnFault → ℕ → Result Told GoOnFault → Front → Type 0
GoesBehind f (Err why) now answer n = (answer ≡ Err why) × (n ≡ f)
GoesBehind f (Ok done) now answer n =
    (event : Result Event GoOnFault) × (c : Client) × GoesOn now most_moves f.client event c × IfIdle event (Rests c)
    × Tells (with_client f c) event now answer n

-- The message of the write that acts next goes into the line; then the client goes on; then comes what is told of it, by what the client
-- told. When a load comes next is worked out anew
abbrev pub FrontGoesOn : Front → ℕ → Result Told GoOnFault → Front → Type 0
FrontGoesOn f now answer n =
    (saying : Result (Unit {0}) GoOnFault) × (m : Front)
    × SaysWrite (rested (record f { loads_at = None }) now) now saying m × GoesBehind m saying now answer n
