-- A program that has a server, puts its records into a journal, and may be killed at any moment; and the terminal at its other end.
use Rattle.std.specs.Prelude.{◌≡◌, ◌≢◌, ℕ, ◌+◌, ◌≤◌, List, [], ◌∷◌, ◌++◌, length, take, drop, true, Option, Some, option_to_list, slice_get, Result, Ok, Err}
use Rattle.sam_link.specs.Calls.{Call, Does, out}
use Rattle.sam_link.specs.Calls.{Call as call}
use Rattle.sam_link.specs.End.{End, broken, fresh}
use Rattle.sam_link.specs.Sessions.{WasCarried, is_taken}
use Rattle.sam_link.specs.declared.fault.FeedFault.{FeedFault}
use Rattle.sam_link.specs.declared.fault.NotOpen.{NotOpen}
use Rattle.sam_link.specs.declared.fault.NoteFault.{NoteFault}
use Rattle.sam_link.specs.declared.hello.Hello.{Hello}
use Rattle.sam_link.specs.declared.hello.Id.{Id}
use Rattle.sam_link.specs.declared.hello.Refusal.{Refusal}
use Rattle.sam_link.specs.declared.keeping.PutFault.{PutFault}
use Rattle.sam_link.specs.declared.phase.Role.TheVariants.{Terminal}
use Rattle.sam_host.specs.declared.fault.MarkFault.{MarkFault}
use Rattle.sam_endpoint.specs.declared.fault.AddFault.{AddFault}
use Rattle.sam_server.specs.DurableServers.{GoesOn, PlainDurableServer, RefusesAcknowledge, RefusesAsk, RefusesEffect, RefusesFile, RefusesHello, RefusesMark, RefusesNote, RefusesPiece, TakesOutDurable, TakesRecord, durable_by, effect_due, new_durable_server, with_link}
use Rattle.sam_server.specs.Records.{Acknowledged, Asked, Called, Came, Done, Joined, Marked, NumbersFit, PlainRecord, Said}
use Rattle.sam_server.specs.Recovering.{recovered}
use Rattle.sam_server.specs.Servers.{Effect, Makes, Server, new_server}
use Rattle.sam_server.specs.declared.fault.CallFault.{CallFault}
use Rattle.sam_server.specs.declared.fault.CallFault.TheVariants as fault
use Rattle.sam_server.specs.declared.fault.GoOnFault.{GoOnFault}
use Rattle.sam_server.specs.declared.fault.GoOnFault.TheVariants as go_on
use Rattle.sam_server.specs.declared.fault.NoEffect.{NoEffect}
use Rattle.sam_server.specs.declared.server.Stage.TheVariants.{Settled}
use Rattle.sam_served.specs.Recoveries.{RetakesAll}
use Rattle.sam_served.specs.Serving.{Event, LeadsServed, Served, WasBrought, calls_in, new_served, records_in}

-- a call that takes a record, with its answer
pub data Taking : Type 0 where
  Accept : Hello → Result (Unit {0}) (CallFault Refusal) → Taking
  Receive : ℕ → List ℕ → Result (Unit {0}) (CallFault FeedFault) → Taking
  AddFile : List ℕ → List ℕ → Result ℕ (CallFault AddFault) → Taking
  Say : List ℕ → Result (Unit {0}) (CallFault NoteFault) → Taking
  Acknowledge : Result (Unit {0}) (CallFault PutFault) → Taking
  Ask : Result (Unit {0}) (CallFault PutFault) → Taking
  MarkDirty : ℕ → Result (Unit {0}) (CallFault MarkFault) → Taking
  EffectDone : ℕ → Result (Unit {0}) (CallFault NoEffect) → Taking

abbrev pub record_of : Taking → PlainRecord
record_of (Accept hello answer) = Called hello
record_of (Receive attempt piece answer) = Came attempt piece
record_of (AddFile name text answer) = Joined name text
record_of (Say message answer) = Said message
record_of (Acknowledge answer) = Acknowledged
record_of (Ask answer) = Asked
record_of (MarkDirty tag answer) = Marked tag
record_of (EffectDone ending answer) = Done ending

-- the clauses of these calls
abbrev pub Takes : PlainDurableServer → Taking → PlainDurableServer → Type 0
Takes d (Accept hello answer) e = TakesRecord d (Called hello) (RefusesHello d hello) answer e
Takes d (Receive attempt piece answer) e = TakesRecord d (Came attempt piece) (RefusesPiece d attempt piece) answer e
Takes d (AddFile name text answer) e = TakesRecord d (Joined name text) (RefusesFile d name text) answer e
Takes d (Say message answer) e = TakesRecord d (Said message) (RefusesNote d message) answer e
Takes d (Acknowledge answer) e = TakesRecord d Acknowledged (RefusesAcknowledge d) answer e
Takes d (Ask answer) e = TakesRecord d Asked (RefusesAsk d) answer e
Takes d (MarkDirty tag answer) e = TakesRecord d (Marked tag) (RefusesMark d tag) answer e
Takes d (EffectDone ending answer) e = TakesRecord d (Done ending) (RefusesEffect d) answer e

-- how far a call has come with its record
pub data Progress : Type 0 where
  IsDone : Progress
  Waits : Progress  -- for `go_on`
  IsNothing : Progress

abbrev pub progress_by : {A F : Type 0} → Result A (CallFault F) → Progress
progress_by (Ok done) = IsDone
progress_by (Err fault.Unfinished) = Waits
progress_by (Err (fault.Stopped why)) = IsNothing
progress_by (Err fault.Waiting) = IsNothing
progress_by (Err fault.OutOfMemory) = IsNothing
progress_by (Err (fault.Refused why)) = IsNothing

abbrev pub progress : Taking → Progress
progress (Accept hello answer) = progress_by answer
progress (Receive attempt piece answer) = progress_by answer
progress (AddFile name text answer) = progress_by answer
progress (Say message answer) = progress_by answer
progress (Acknowledge answer) = progress_by answer
progress (Ask answer) = progress_by answer
progress (MarkDirty tag answer) = progress_by answer
progress (EffectDone ending answer) = progress_by answer

-- a terminal, and a program
pub record Program : Type 0 where
  pub terminal : End
  pub terminal_calls : List Call
  pub server : PlainDurableServer
  pub outs : List Call  -- what its servers took out, as calls of a link
  pub journal : List (List ℕ)  -- the bodies that the program got, as crashes have left them
  pub taken : List PlainRecord  -- the records that are taken and done, as crashes have left them
  pub begun : List PlainRecord  -- the record that waits for `go_on`

abbrev pub new_program : Id → Program
new_program id =
    record {
      terminal = fresh Terminal id;
      terminal_calls = [];
      server = new_durable_server id;
      outs = [];
      journal = [];
      taken = [];
      begun = [];
    }

-- what becomes of the records
abbrev pub after_take : Progress → Program → PlainRecord → PlainDurableServer → Program
after_take IsDone p r e = record p { server = e; taken = p.taken ++ r ∷ [] }
after_take Waits p r e = record p { server = e; begun = r ∷ [] }
after_take IsNothing p r e = record p { server = e }

abbrev pub after_going_on : Result (Unit {0}) GoOnFault → Program → PlainDurableServer → Program
after_going_on (Ok done) p e = record p { server = e; taken = p.taken ++ p.begun; begun = [] }
after_going_on (Err go_on.Unfinished) p e = record p { server = e }
after_going_on (Err (go_on.Stopped why)) p e = record p { server = e; begun = [] }

-- what happens
pub data Act : Type 0 where
  ByTerminal : Call → Act
  Take : Taking → Act
  GoOn : Result (Unit {0}) GoOnFault → Act
  Break : ℕ → Act
  NextRecord : Option (List ℕ) → Act
  Durable : ℕ → Act
  TakeOut : ℕ → List ℕ → Result ℕ NotOpen → List ℕ → Act
  Crash : ℕ → Act  -- the program is killed, and another makes a server of so many bodies of the journal

-- These acts lead from one to the next. What a call brings was carried; a program says durable only what it got, and what it said so the
-- next one finds
abbrev pub LeadsProgram : Id → Program → List Act → Program → Type 0
LeadsProgram id p [] z = z ≡ p
LeadsProgram id p (ByTerminal c ∷ acts) z =
    (t : End) × Does p.terminal c t × (is_taken c ≡ true → WasCarried p.terminal_calls p.outs c)
    × LeadsProgram id (record p { terminal = t; terminal_calls = p.terminal_calls ++ c ∷ [] }) acts z
LeadsProgram id p (Take taking ∷ acts) z =
    (e : PlainDurableServer) × Takes p.server taking e × NumbersFit (record_of taking)
    × (progress taking ≢ IsNothing → WasBrought p.taken p.terminal_calls (record_of taking))
    × LeadsProgram id (after_take (progress taking) p (record_of taking) e) acts z
LeadsProgram id p (GoOn answer ∷ acts) z =
    (e : PlainDurableServer) × GoesOn p.server answer e × LeadsProgram id (after_going_on answer p e) acts z
LeadsProgram id p (Break attempt ∷ acts) z =
    LeadsProgram id (record p { server = with_link p.server (broken p.server.turn.server.link attempt) }) acts z
LeadsProgram id p (NextRecord body ∷ acts) z =
    (body ≡ slice_get p.server.records 0)
    × LeadsProgram id
    (record p { server = record p.server { records = drop 1 p.server.records }; journal = p.journal ++ option_to_list body }) acts z
LeadsProgram id p (Durable count ∷ acts) z =
    (count + length p.server.records ≤ length p.server.gate.waiting)
    × LeadsProgram id (record p { server = durable_by p.server count }) acts z
LeadsProgram id p (TakeOut attempt old answer new ∷ acts) z =
    (e : PlainDurableServer) × TakesOutDurable p.server attempt old answer new e
    × LeadsProgram id (record p { server = e; outs = p.outs ++ call.TakeOut attempt old answer new ∷ [] }) acts z
LeadsProgram id p (Crash n ∷ acts) z =
    (s : Server) × (length p.taken ≤ n + length p.server.gate.waiting) × (n ≤ length p.journal)
    × RetakesAll (new_server id) (take n p.journal) s
    × LeadsProgram id (record p { server = recovered s; journal = take n p.journal; taken = take n p.taken; begun = [] }) acts z

-- ## The law

-- Any calls of the program, with any crashes, are a session of the definition: the terminal is its terminal, the records are its records,
-- on each connection the same bytes went out, and where nothing waits the server is its server. Whatever a crash leaves then, the server
-- that is made of it has the effect that is lent
pub record IsServed (id : Id) (p : Program) : Type 0 where
  pub events : List Event
  pub served : Served
  pub leads : LeadsServed id (new_served id) events served
  pub terminal : served.terminal ≡ p.terminal
  pub terminal_calls : served.terminal_calls ≡ p.terminal_calls
  pub outs : (attempt : ℕ) → out attempt p.outs ≡ out attempt (calls_in served.log)
  pub records : records_in served.log ≡ p.taken
  pub server : p.server.stage ≡ Settled → served.server ≡ p.server.turn.server
  pub effect : (f : Effect) (n : ℕ) → p.server.stage ≡ Settled → effect_due p.server ≡ Some f → served.durable ≤ n → n ≤ length p.taken
      → (m : Server) × Makes (new_server id) (take n p.taken) m × (m.effect ≡ Some f)

abbrev pub ProgramsAreServed : Type 0
ProgramsAreServed = (id : Id) (acts : List Act) (p : Program) → LeadsProgram id (new_program id) acts p → IsServed id p
