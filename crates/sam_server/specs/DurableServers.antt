-- A server with its records, and what its calls do.
use Rattle.std.specs.Prelude.{◌≡◌, ◌≢◌, ◌⊎◌, ℕ, ◌+◌, ◌-◌, List, [], ◌∷◌, ◌++◌, length, take, drop, min, Bool, false, ◌==◌, if◌then◌else◌, Option, option_map, None, Some, Result, Ok, Err}
use Rattle.std.specs.Global.{Vec}
use Rattle.sam_link.specs.Calls.{Does}
use Rattle.sam_link.specs.Calls.Call.{Acknowledge, Ask, Feed, PutNote}
use Rattle.sam_link.specs.End.{End, TakesOut, refusal_of}
use Rattle.sam_link.specs.declared.fault.FeedFault.{FeedFault}
use Rattle.sam_link.specs.declared.fault.FeedFault.TheVariants as feeds
use Rattle.sam_link.specs.declared.fault.NotOpen.{NotOpen}
use Rattle.sam_link.specs.declared.fault.NoteFault.{NoteFault}
use Rattle.sam_link.specs.declared.hello.Hello.{Hello}
use Rattle.sam_link.specs.declared.hello.Id.{Id}
use Rattle.sam_link.specs.declared.hello.Refusal.{Refusal}
use Rattle.sam_runes.specs.Checks.{first_of_checks}
use Rattle.sam_link.specs.declared.keeping.PutFault.{PutFault}
use Rattle.sam_host.specs.Marking.{mark_checks}
use Rattle.sam_host.specs.declared.fault.MarkFault.{MarkFault}
use Rattle.sam_endpoint.specs.HostEndpoints.{IsAddFault, IsMarkFault, add_checks}
use Rattle.sam_endpoint.specs.declared.fault.AddFault.{AddFault}
use Rattle.sam_server.specs.Gates.{PlainGate, allowed, gone_count, new_gate, passed, put_count}
use Rattle.sam_server.specs.Records.{Acknowledged, Asked, Called, Came, Done, Joined, Marked, PlainRecord, Said, record_bytes}
use Rattle.sam_server.specs.Servers.{Effect, Server, Takes, new_server}
use Rattle.sam_server.specs.Turns.{Finishes, IsResting, Nears, PlainTurn, linked}
use Rattle.sam_server.specs.declared.fault.CallFault.{CallFault}
use Rattle.sam_server.specs.declared.fault.CallFault.TheVariants as fault
use Rattle.sam_server.specs.declared.fault.GoOnFault.{GoOnFault}
use Rattle.sam_server.specs.declared.fault.GoOnFault.TheVariants as go_on
use Rattle.sam_server.specs.declared.fault.NoEffect.{NoEffect}
use Rattle.sam_server.specs.declared.gate.Mark.{Mark}
use Rattle.sam_server.specs.declared.server.Stage.{Stage}
use Rattle.sam_server.specs.declared.server.Stage.TheVariants.{Answering, Recording, Settled, Stopped}

pub record PlainDurableServer : Type 0 where
  pub turn : PlainTurn  -- the server as it stands
  pub stage : Stage  -- how far it has come with what it took last
  pub owed : List ℕ  -- the bytes of the record of that, until it is done
  pub records : List (List ℕ)  -- the bytes of the records that the program has not got, the oldest first
  pub gate : PlainGate
  pub due : Option ℕ  -- once a record has the effect that waits, how many records have to become durable until that one is

abbrev pub bytes_in : Vec ℕ → List ℕ
bytes_in v = v.items

-- where all is done nothing is left of a turn
abbrev pub IsWell : Stage → PlainTurn → Type 0
IsWell Settled t = IsResting t
IsWell Recording t = IsResting t
IsWell Answering t = Unit {0}
IsWell (Stopped why) t = Unit {0}

-- ## A record is taken

-- how a server stands behind a record
abbrev pub mark_of : End → Mark
mark_of e = record { attempt = e.attempt; put = put_count e }

-- a record has the effect that waits, if one does: the first that has it is the last of so many that are not durable
abbrev pub due_behind : Option ℕ → Option Effect → ℕ → Option ℕ
due_behind (Some n) effect count = Some n
due_behind None (Some effect) count = Some count
due_behind None None count = None

-- an effect that is done is due no more
abbrev pub due_before : PlainRecord → Option ℕ → Option ℕ
due_before (Done ending) due = None
due_before (Joined name text) due = due
due_before (Marked f) due = due
due_before (Called hello) due = due
due_before (Came attempt piece) due = due
due_before (Said bytes) due = due
due_before Acknowledged due = due
due_before Asked due = due

-- so many more records are durable
abbrev pub due_after : ℕ → Option ℕ → Option ℕ
due_after count due = option_map (λ n. n - count) due

abbrev pub durable_by : PlainDurableServer → ℕ → PlainDurableServer
durable_by d count = record d { gate = passed count d.gate.base d.gate.waiting; due = due_after count d.due }

-- nothing is left of this turn, and all records are durable
abbrev pub settled : PlainTurn → PlainGate → PlainDurableServer
settled t gate = record { turn = t; stage = Settled; owed = []; records = []; gate = gate; due = due_behind None t.server.effect 0 }

abbrev pub new_durable_server : Id → PlainDurableServer
new_durable_server id = settled (record { server = new_server id; held = [] }) new_gate

-- the turn is done, and its record stands behind the others
abbrev pub recorded : PlainDurableServer → PlainTurn → List ℕ → PlainDurableServer
recorded d t bytes =
    record {
      turn = t;
      stage = Settled;
      owed = [];
      records = d.records ++ bytes ∷ [];
      gate = record d.gate { waiting = d.gate.waiting ++ mark_of t.server.link ∷ [] };
      due = due_behind d.due t.server.effect (length d.gate.waiting + 1);
    }

-- what is left of what was taken leads there
abbrev pub LeftAt : Stage → PlainTurn → Server → Type 0
LeftAt Answering t z = Finishes t z
LeftAt Recording t z = z ≡ t.server
LeftAt Settled t z = ⊥
LeftAt (Stopped why) t z = ⊥

abbrev pub Left : PlainDurableServer → Server → Type 0
Left d z = LeftAt d.stage d.turn z

-- memory was refused before it was done
abbrev pub IsOwing : Stage → Type 0
IsOwing Answering = Unit {0}
IsOwing Recording = Unit {0}
IsOwing Settled = ⊥
IsOwing (Stopped why) = ⊥

-- what is left now leads where all that was left led
pub record Leads (d e : PlainDurableServer) : Type 0 where
  pub leads : (z : Server) → Left e z → Left d z

-- what is left leads where the server comes to by this record
pub record LeadsBy (s : Server) (r : PlainRecord) (e : PlainDurableServer) : Type 0 where
  pub leads : (z : Server) → Left e z → Takes s r z

-- what is left leads nowhere
abbrev pub LeadsNowhere : PlainDurableServer → Type 0
LeadsNowhere d = (z : Server) → Left d z → ⊥

abbrev pub LeadsNowhereBy : Server → PlainRecord → Type 0
LeadsNowhereBy s r = (z : Server) → Takes s r z → ⊥

-- only the turn has gone on
abbrev pub gone_to : PlainDurableServer → PlainTurn → Stage → List ℕ → PlainDurableServer
gone_to d t stage owed = record d { turn = t; stage = stage; owed = owed }

-- going on with what was taken last; it stops only where that leads nowhere
abbrev pub GoesOn : PlainDurableServer → Result (Unit {0}) GoOnFault → PlainDurableServer → Type 0
GoesOn d (Ok done) e =
    ((d.stage ≡ Settled) × (e ≡ d)) ⊎ (IsOwing d.stage × Left d e.turn.server × (e ≡ recorded d e.turn d.owed))
GoesOn d (Err go_on.Unfinished) e =
    IsOwing d.stage × IsOwing e.stage × Leads d e × (e ≡ gone_to d e.turn e.stage d.owed)
GoesOn d (Err (go_on.Stopped why)) e =
    ((d.stage ≡ Stopped why) × (e ≡ d)) ⊎ (IsOwing d.stage × LeadsNowhere d × (e ≡ gone_to d e.turn (Stopped why) d.owed))

-- the rest of the turn
abbrev pub Finishing : PlainDurableServer → Result (Unit {0}) GoOnFault → PlainDurableServer → Type 0
Finishing d (Ok done) e = Finishes d.turn e.turn.server × (e ≡ gone_to d e.turn Recording d.owed)
Finishing d (Err go_on.Unfinished) e = Nears d.turn e.turn × (e ≡ gone_to d e.turn Answering d.owed)
Finishing d (Err (go_on.Stopped why)) e = ((z : Server) → Finishes d.turn z → ⊥) × (e ≡ gone_to d e.turn (Stopped why) d.owed)

-- going on at once with what a call took
abbrev pub GoesOnNow : {F : Type 0} → PlainDurableServer → Result (Unit {0}) (CallFault F) → PlainDurableServer → Type 0
GoesOnNow d (Ok done) e = GoesOn d (Ok tt) e
GoesOnNow d (Err fault.Unfinished) e = GoesOn d (Err go_on.Unfinished) e
GoesOnNow d (Err (fault.Stopped why)) e = GoesOn d (Err (go_on.Stopped why)) e
GoesOnNow d (Err fault.Waiting) e = ⊥
GoesOnNow d (Err fault.OutOfMemory) e = ⊥
GoesOnNow d (Err (fault.Refused why)) e = ⊥

-- whether a record with these bytes may be taken now
abbrev pub Prepares : {F : Type 0} → Stage → List ℕ → Result (Vec ℕ) (CallFault F) → Type 0
Prepares stage bytes (Ok body) = (stage ≡ Settled) × (body.items ≡ bytes)
Prepares stage bytes (Err (fault.Stopped why)) = stage ≡ Stopped why
Prepares stage bytes (Err fault.Waiting) = IsOwing stage
Prepares stage bytes (Err fault.OutOfMemory) = stage ≡ Settled
Prepares stage bytes (Err (fault.Refused why)) = ⊥
Prepares stage bytes (Err fault.Unfinished) = ⊥

-- it begins to take the record
abbrev pub begun : PlainDurableServer → PlainRecord → PlainDurableServer
begun d r = record d { due = due_before r d.due }

-- What a call answers that takes this record, where this is said of a refusal. If memory is refused behind it, what is left leads where the
-- record leads. It stops only where the record leads nowhere. Else all stays
abbrev pub TakesRecord : {A F : Type 0} → PlainDurableServer → PlainRecord → (F → PlainDurableServer → Type 0)
    → Result A (CallFault F) → PlainDurableServer → Type 0
TakesRecord d r refuses (Ok done) e =
    (d.stage ≡ Settled) × Takes d.turn.server r e.turn.server × (e ≡ recorded (begun d r) e.turn (record_bytes r))
TakesRecord d r refuses (Err fault.Unfinished) e =
    (d.stage ≡ Settled) × IsOwing e.stage × LeadsBy d.turn.server r e
    × (e ≡ gone_to (begun d r) e.turn e.stage (record_bytes r))
TakesRecord d r refuses (Err (fault.Stopped why)) e =
    ((d.stage ≡ Stopped why) × (e ≡ d))
    ⊎ ((d.stage ≡ Settled) × LeadsNowhereBy d.turn.server r × (e ≡ gone_to (begun d r) e.turn (Stopped why) (record_bytes r)))
TakesRecord d r refuses (Err fault.Waiting) e = IsOwing d.stage × (e ≡ d)
TakesRecord d r refuses (Err fault.OutOfMemory) e = (d.stage ≡ Settled) × (e ≡ d)
TakesRecord d r refuses (Err (fault.Refused why)) e = (d.stage ≡ Settled) × refuses why e

-- ## The calls

abbrev pub with_link : PlainDurableServer → End → PlainDurableServer
with_link d l = record d { turn = linked d.turn l }

-- a hello is refused, and all stays
abbrev pub RefusesHello : PlainDurableServer → Hello → Refusal → PlainDurableServer → Type 0
RefusesHello d hello why e = (refusal_of d.turn.server.link hello ≡ Some why) × (e ≡ d)

-- a piece is refused: the link says why, and what becomes of its connection
abbrev pub RefusesPiece : PlainDurableServer → ℕ → List ℕ → FeedFault → PlainDurableServer → Type 0
RefusesPiece d attempt piece why e =
    (l : End) × (why ≢ feeds.OutOfMemory) × Does d.turn.server.link (Feed attempt piece (Err why)) l × (e ≡ with_link d l)

-- a file is refused as the endpoint refuses it, and all stays
abbrev pub RefusesFile : PlainDurableServer → List ℕ → List ℕ → AddFault → PlainDurableServer → Type 0
RefusesFile d name text why e = IsAddFault (first_of_checks (add_checks d.turn.server.host name text)) why × (e ≡ d)

-- a message is refused as the link refuses it, and all stays
abbrev pub RefusesNote : PlainDurableServer → List ℕ → NoteFault → PlainDurableServer → Type 0
RefusesNote d message why e = Does d.turn.server.link (PutNote message (Err why)) d.turn.server.link × (e ≡ d)

-- the link says why it doesn't ask, and all stays
abbrev pub RefusesAsk : PlainDurableServer → PutFault → PlainDurableServer → Type 0
RefusesAsk d why e = Does d.turn.server.link (Ask (Err why)) d.turn.server.link × (e ≡ d)

-- the link says why it doesn't acknowledge, and all stays
abbrev pub RefusesAcknowledge : PlainDurableServer → PutFault → PlainDurableServer → Type 0
RefusesAcknowledge d why e = Does d.turn.server.link (Acknowledge (Err why)) d.turn.server.link × (e ≡ d)

-- a file is not marked, for the reason that the endpoint has, and all stays
abbrev pub RefusesMark : PlainDurableServer → ℕ → MarkFault → PlainDurableServer → Type 0
RefusesMark d f why e = IsMarkFault (first_of_checks (mark_checks d.turn.server.host.host f)) why × (e ≡ d)

-- the first record that has the effect is durable
abbrev pub is_due : Option ℕ → Bool
is_due (Some n) = n == 0
is_due None = false

-- the effect that is to be done now
abbrev pub effect_due : PlainDurableServer → Option Effect
effect_due d = if is_due d.due then d.turn.server.effect else None

-- no effect is to be done now, and all stays
abbrev pub RefusesEffect : PlainDurableServer → NoEffect → PlainDurableServer → Type 0
RefusesEffect d why e = (effect_due d ≡ None) × (e ≡ d)

-- what a call says of a piece that the link has not taken
abbrev pub told_of_feed : FeedFault → CallFault FeedFault
told_of_feed feeds.OutOfMemory = fault.OutOfMemory
told_of_feed feeds.NotOpen = fault.Refused feeds.NotOpen
told_of_feed feeds.CountFull = fault.Refused feeds.CountFull
told_of_feed (feeds.Wrong why) = fault.Refused (feeds.Wrong why)
told_of_feed feeds.AckAhead = fault.Refused feeds.AckAhead

-- so much may go out on this connection: nothing before what was taken is done
abbrev pub room_at : Stage → PlainGate → End → ℕ → ℕ
room_at Settled gate e attempt = allowed gate attempt (length e.hello) (gone_count e)
room_at Answering gate e attempt = 0
room_at Recording gate e attempt = 0
room_at (Stopped why) gate e attempt = 0

abbrev pub out_room : PlainDurableServer → ℕ → ℕ
out_room d attempt = room_at d.stage d.gate d.turn.server.link attempt

-- bytes go out as of a link, into no more of the buffer than may go out
abbrev pub TakesOutDurable : PlainDurableServer → ℕ → List ℕ → Result ℕ NotOpen → List ℕ → PlainDurableServer → Type 0
TakesOutDurable d attempt old result new e =
    (l : End) × (front : List ℕ)
    × TakesOut d.turn.server.link attempt (take (min (out_room d attempt) (length old)) old) result front l
    × (new ≡ front ++ drop (min (out_room d attempt) (length old)) old) × (e ≡ with_link d l)
