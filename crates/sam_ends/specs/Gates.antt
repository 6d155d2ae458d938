-- What a gate let a worker do. `must None`: it never lets the worker begin. `must (Some n)`: it never lets it go on once it has done n
-- steps.
use Rattle.std.specs.Prelude.{◌≡◌, ℕ, ◌+◌, ◌-◌, ◌^◌, ◌<◌, ◌≤◌, List, [], ◌++◌, length, min, Option, Some, None}
use Rattle.sam_mesg.specs.declared.tmesg.Tmesg.{Tmesg}
use Rattle.sam_host.specs.Host.{new_host}
use Rattle.sam_term.specs.Term.{new_terminal}
use Rattle.sam_term.specs.declared.event.UserEvent.{UserEvent}
use Rattle.sam_sides.specs.Logs.{logged_users}
use Rattle.sam_sides.specs.Sides.{TermRuns}
use Rattle.sam_queue.specs.declared.rule.Entry.{Entry}
use Rattle.sam_sides.specs.RealSides.{at_work}
use Rattle.sam_ends.specs.Inputs.{frames_in, users_in}
use Rattle.sam_ends.specs.WorkerEnds.{IsOwnExit}
use Rattle.sam_ends.specs.declared.input.Input.{Input}
use Rattle.sam_ends.specs.declared.ends.UserEnd.{UserEnd}
use Rattle.sam_ends.specs.declared.ends.HostEnd.{HostEnd}
use Rattle.sam_ends.specs.declared.ends.ReaderEnd.{ReaderEnd}
use Rattle.sam_ends.specs.declared.ends.TermEnd.{TermEnd}
use Rattle.sam_ends.specs.declared.ends.Ends.{Ends}
use Rattle.sam_ends.specs.declared.stop.Stop.TheVariants as stop

-- what the gate is asked with, once so much was done
abbrev pub IsCount : ℕ → ℕ → Type 0
IsCount handled done = handled ≡ min done (2 ^ 64 - 1)

-- the gate let the worker go on at each count from one up to another, so there is none at which it never does; 2^64-1 is the last count
pub record LetOn (must : Option ℕ → Type 0) (first last : ℕ) : Type 0 where
  pub none : (done : ℕ) → first ≤ done → done < last → done < 2 ^ 64 - 1 → must (Some done) → ⊥

-- so many items are what the terminal handled: all that its log goes through but an Exit of its own
pub record TermHandled (many : ℕ) (e : TermEnd) : Type 0 where
  pub handled : List (Entry Input)
  pub dropped : List (Entry Input)
  pub composed : List Tmesg
  pub own : List UserEvent
  pub took : e.take.taken ≡ handled ++ dropped
  pub runs : TermRuns at_work new_terminal e.log.items (frames_in handled) composed e.term
  pub users : logged_users e.log.items ≡ users_in handled ++ own
  pub exits : IsOwnExit own handled
  pub many_is : IsCount many (length (users_in handled) + length (frames_in handled))

-- the gate let the terminal's worker go on before each item that it handled
pub record TermLetOn (must : Option ℕ → Type 0) (e : TermEnd) : Type 0 where
  pub many : ℕ
  pub handled : TermHandled many e
  pub let_on : LetOn must 0 many

-- The gate let each worker go on before each of its steps: an event that keyboard or mouse put, a message that the host handled, a frame
-- that the host reader sent on, an item that the terminal handled
pub record GatesLetOn (must : ℕ → Option ℕ → Type 0) (e : Ends) : Type 0 where
  pub keyboard : LetOn (must 0) 0 (length e.keyboard.post.put)
  pub mouse : LetOn (must 1) 0 (length e.mouse.post.put)
  pub host : LetOn (must 2) 0 e.host.host.taken
  pub reader : LetOn (must 3) 0 (length e.reader.post.put)
  pub term : TermLetOn (must 4) e.term

-- and it let each begin
abbrev pub GatesLetIn : (ℕ → Option ℕ → Type 0) → Type 0
GatesLetIn must = (worker : ℕ) → worker < 5 → must worker None → ⊥

-- ## A worker that the gate did not let begin: it stopped there, and has put and handled nothing

abbrev pub UserKeptOut : UserEnd → Type 0
UserKeptOut e = (e.stop ≡ Some stop.Gate) × (e.post.put ≡ [])

abbrev pub HostKeptOut : HostEnd → Type 0
HostKeptOut e = (e.stop ≡ Some stop.Gate) × (e.post.put ≡ []) × (e.host ≡ new_host e.files.items)

abbrev pub ReaderKeptOut : ReaderEnd → Type 0
ReaderKeptOut e = (e.stop ≡ Some stop.Gate) × (e.post.put ≡ [])

abbrev pub TermKeptOut : TermEnd → Type 0
TermKeptOut e = (e.stop ≡ Some stop.Gate) × (e.post.put ≡ []) × (e.log.items ≡ []) × (e.term ≡ new_terminal)
