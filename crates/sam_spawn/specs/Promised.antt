-- What the join of each thread hands on. `refuses worker`: the gate may refuse it. `must worker`: where the gate never lets it pass, as at
-- LetOn.
use Rattle.std.specs.Prelude.{◌≡◌, ℕ, ◌<◌, List, length, Bool, true, false, Option, Some, None, ◌⊎◌}
use Rattle.sam_term.specs.declared.event.UserEvent.{UserEvent}
use Rattle.sam_queue.specs.Views.{LineView}
use Rattle.sam_ends.specs.Lines.{LinesView}
use Rattle.sam_ends.specs.Gates.{LetOn, TermLetOn}
use Rattle.sam_ends.specs.WorkerEnds.{UserTold, HostTold, ReaderTold, TermTold}
use Rattle.sam_ends.specs.declared.stop.Stop.{Stop}
use Rattle.sam_ends.specs.declared.ends.UserEnd.{UserEnd}
use Rattle.sam_ends.specs.declared.ends.HostEnd.{HostEnd}
use Rattle.sam_ends.specs.declared.ends.ReaderEnd.{ReaderEnd}
use Rattle.sam_ends.specs.declared.ends.TermEnd.{TermEnd}
use Rattle.sam_ends.specs.declared.ends.Ends.{Ends}
use Rattle.sam_ends.specs.declared.stop.Stop.TheVariants as stop
use Rattle.sam_ends.specs.declared.tasks.UserTask.{UserTask}
use Rattle.sam_ends.specs.declared.tasks.HostTask.{HostTask}
use Rattle.sam_ends.specs.declared.tasks.ReaderTask.{ReaderTask}
use Rattle.sam_ends.specs.declared.tasks.TermTask.{TermTask}
use Rattle.sam_ends.specs.declared.tasks.Tasks.{Tasks}
use Rattle.sam_ends.specs.Tasks.{IsUserTask, IsHostTask, IsReaderTask, IsTermTask}
use Rattle.sam_spawn.specs.declared.run.RunFault.{RunFault}
use Rattle.sam_spawn.specs.declared.run.RunFault.TheVariants as fault
use Rattle.sam_spawn.specs.declared.work.Task.{Task}
use Rattle.sam_spawn.specs.declared.work.Task.TheVariants as task
use Rattle.sam_spawn.specs.declared.work.End.{End}
use Rattle.sam_spawn.specs.declared.work.End.TheVariants as end
use Rattle.sam_spawn.specs.declared.spawning.TaskPromise.{TaskPromise}
use Rattle.sam_spawn.specs.declared.spawning.Handles.{Handles}

-- a worker was refused as it began, or stopped at its gate, only where the gate may refuse it, and it began only where the gate lets it
pub record GateMay (refuses : ℕ → Type 0) (must : ℕ → Option ℕ → Type 0) (worker : ℕ) (passed : Bool) (why : Option Stop) : Type 0 where
  pub begins : passed ≡ false → refuses worker
  pub way : why ≡ Some stop.Gate → refuses worker
  pub let_in : passed ≡ true → must worker None → ⊥

pub record UserKept (refuses : ℕ → Type 0) (must : ℕ → Option ℕ → Type 0) (worker : ℕ) (todo : List UserEvent) (events : LineView)
    (e : UserEnd) : Type 0 where
  pub told : UserTold worker todo events e
  pub gate : GateMay refuses must worker e.passed e.stop
  pub let_on : LetOn (must worker) 0 (length e.post.put)

pub record HostKept (refuses : ℕ → Type 0) (must : ℕ → Option ℕ → Type 0) (given : List (List ℕ × List ℕ)) (up down : LineView)
    (e : HostEnd) : Type 0 where
  pub told : HostTold up down e
  pub files : e.files.items ≡ given
  pub gate : GateMay refuses must 2 e.passed e.stop
  pub let_on : LetOn (must 2) 0 e.host.taken

pub record ReaderKept (refuses : ℕ → Type 0) (must : ℕ → Option ℕ → Type 0) (down events : LineView) (e : ReaderEnd) : Type 0 where
  pub told : ReaderTold down events e
  pub gate : GateMay refuses must 3 e.passed e.stop
  pub let_on : LetOn (must 3) 0 (length e.post.put)

pub record TermKept (refuses : ℕ → Type 0) (must : ℕ → Option ℕ → Type 0) (events up : LineView) (e : TermEnd) : Type 0 where
  pub told : TermTold events up e
  pub gate : GateMay refuses must 4 e.passed e.stop
  pub let_on : TermLetOn (must 4) e

-- what all five joins hand on, where one gate, one script and one set of lines were promised
pub record AllKept (refuses : ℕ → Type 0) (must : ℕ → Option ℕ → Type 0) (keys clicks : List UserEvent) (given : List (List ℕ × List ℕ))
    (lines : LinesView) (e : Ends) : Type 0 where
  pub keyboard : UserKept refuses must 0 keys lines.events e.keyboard
  pub mouse : UserKept refuses must 1 clicks lines.events e.mouse
  pub host : HostKept refuses must given lines.up lines.down e.host
  pub reader : ReaderKept refuses must lines.down lines.events e.reader
  pub term : TermKept refuses must lines.events lines.up e.term

-- the same, of a session that began in these tasks
abbrev pub TasksKept : (ℕ → Type 0) → (ℕ → Option ℕ → Type 0) → Tasks → Ends → Type 0
TasksKept refuses must s = AllKept refuses must s.keyboard.events.items s.mouse.events.items s.host.files.items s.lines.now

-- ## Promises

-- nothing was put, taken or handled
abbrev pub IsNew : Task → Type 0
IsNew (task.User t) = (t.worker < 5) × IsUserTask t.worker t.post.line t
IsNew (task.Host t) = IsHostTask t.take.line t.post.line t
IsNew (task.Reader t) = IsReaderTask t.take.line t.post.line t
IsNew (task.Term t) = IsTermTask t.take.line t.post.line t

-- it is an end of the worker that began with this
abbrev pub Keeps : (ℕ → Type 0) → (ℕ → Option ℕ → Type 0) → Task → End → Type 0
Keeps refuses must (task.User t) (end.User e) = UserKept refuses must t.worker t.events.items t.post.line e
Keeps refuses must (task.User t) (end.Host e) = ⊥
Keeps refuses must (task.User t) (end.Reader e) = ⊥
Keeps refuses must (task.User t) (end.Term e) = ⊥
Keeps refuses must (task.Host t) (end.User e) = ⊥
Keeps refuses must (task.Host t) (end.Host e) = HostKept refuses must t.files.items t.take.line t.post.line e
Keeps refuses must (task.Host t) (end.Reader e) = ⊥
Keeps refuses must (task.Host t) (end.Term e) = ⊥
Keeps refuses must (task.Reader t) (end.User e) = ⊥
Keeps refuses must (task.Reader t) (end.Host e) = ⊥
Keeps refuses must (task.Reader t) (end.Reader e) = ReaderKept refuses must t.take.line t.post.line e
Keeps refuses must (task.Reader t) (end.Term e) = ⊥
Keeps refuses must (task.Term t) (end.User e) = ⊥
Keeps refuses must (task.Term t) (end.Host e) = ⊥
Keeps refuses must (task.Term t) (end.Reader e) = ⊥
Keeps refuses must (task.Term t) (end.Term e) = TermKept refuses must t.take.line t.post.line e

-- the end of a thread is as it promised. `may gate` and `must gate` are what the gate may and must refuse
abbrev pub KeepsPromise : {G : Type 0} → (G → ℕ → Type 0) → (G → ℕ → Option ℕ → Type 0) → TaskPromise G → End → Type 0
KeepsPromise may must p = Keeps (may p.gate.now) (must p.gate.now) p.task.value

-- the same, of the end of a worker of a known kind
abbrev pub KeepsUser : {G : Type 0} → (G → ℕ → Type 0) → (G → ℕ → Option ℕ → Type 0) → TaskPromise G → UserEnd → Type 0
KeepsUser may must p e = KeepsPromise may must p (end.User e)

abbrev pub KeepsHost : {G : Type 0} → (G → ℕ → Type 0) → (G → ℕ → Option ℕ → Type 0) → TaskPromise G → HostEnd → Type 0
KeepsHost may must p e = KeepsPromise may must p (end.Host e)

abbrev pub KeepsReader : {G : Type 0} → (G → ℕ → Type 0) → (G → ℕ → Option ℕ → Type 0) → TaskPromise G → ReaderEnd → Type 0
KeepsReader may must p e = KeepsPromise may must p (end.Reader e)

abbrev pub KeepsTerm : {G : Type 0} → (G → ℕ → Type 0) → (G → ℕ → Option ℕ → Type 0) → TaskPromise G → TermEnd → Type 0
KeepsTerm may must p e = KeepsPromise may must p (end.Term e)

-- each join hands on what its thread promised
pub record KeepPromises {G : Type 0} (may : G → ℕ → Type 0) (must : G → ℕ → Option ℕ → Type 0) (h : Handles G) (e : Ends) : Type 0 where
  pub keyboard : KeepsUser may must h.keyboard.promise e.keyboard
  pub mouse : KeepsUser may must h.mouse.promise e.mouse
  pub host : KeepsHost may must h.host.promise e.host
  pub reader : KeepsReader may must h.reader.promise e.reader
  pub term : KeepsTerm may must h.term.promise e.term

-- the promise is of this gate and of what the worker begins with
abbrev pub Promises : {G : Type 0} → G → Task → TaskPromise G → Type 0
Promises gate t p = (p.gate.now ≡ gate) × (p.task.value ≡ t)

-- the promises of the five threads are those of one gate, in a session that begins in these tasks
pub record TasksPromised {G : Type 0} (gate : G) (s : Tasks) (h : Handles G) : Type 0 where
  pub keyboard : Promises gate (task.User s.keyboard) h.keyboard.promise
  pub mouse : Promises gate (task.User s.mouse) h.mouse.promise
  pub host : Promises gate (task.Host s.host) h.host.promise
  pub reader : Promises gate (task.Reader s.reader) h.reader.promise
  pub term : Promises gate (task.Term s.term) h.term.promise

-- of a worker of this kind
abbrev pub IsOfUser : {G : Type 0} → TaskPromise G → Type 0
IsOfUser p = (t : UserTask) × (p.task.value ≡ task.User t)

abbrev pub IsOfHost : {G : Type 0} → TaskPromise G → Type 0
IsOfHost p = (t : HostTask) × (p.task.value ≡ task.Host t)

abbrev pub IsOfReader : {G : Type 0} → TaskPromise G → Type 0
IsOfReader p = (t : ReaderTask) × (p.task.value ≡ task.Reader t)

abbrev pub IsOfTerm : {G : Type 0} → TaskPromise G → Type 0
IsOfTerm p = (t : TermTask) × (p.task.value ≡ task.Term t)

-- each promise is of a worker of its handle's kind
pub record AreOfKinds {G : Type 0} (h : Handles G) : Type 0 where
  pub keyboard : IsOfUser h.keyboard.promise
  pub mouse : IsOfUser h.mouse.promise
  pub host : IsOfHost h.host.promise
  pub reader : IsOfReader h.reader.promise
  pub term : IsOfTerm h.term.promise

-- some worker's gate did not let it begin
abbrev pub SomeRefused : Ends → Type 0
SomeRefused e =
    (e.keyboard.passed ≡ false)
    ⊎ ((e.mouse.passed ≡ false) ⊎ ((e.host.passed ≡ false) ⊎ ((e.reader.passed ≡ false) ⊎ (e.term.passed ≡ false))))

-- why a session was not run: some thread could not be started, or some worker's gate did not let it begin
abbrev pub fault_of : Option Ends → RunFault
fault_of None = fault.NoThread
fault_of (Some e) = fault.GateTimedOut
