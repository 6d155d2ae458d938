-- A session whose host is a server: what its crashes leave, and what may go out, in records.
use Rattle.std.specs.Prelude.{◌≡◌, ℕ, zero, suc, ◌+◌, ◌-◌, ◌≤◌, List, [], ◌∷◌, ◌++◌, length, map, take, drop, flat_map, true, ◌==◌, if◌then◌else◌, Ok, Err}
use Rattle.std.specs.Str.{chars}
use Rattle.sam_link.specs.Calls.{Call, Does, bytes_of, handed, out, put}
use Rattle.sam_link.specs.Calls.Call.{Acknowledge, Answer, Ask, Break, Dial, Feed, NextNote, Put, PutNote, TakeIn, TakeOut, Welcome}
use Rattle.sam_link.specs.End.{End, ended, fresh}
use Rattle.sam_link.specs.Sessions.{IsFrom, Leads, Session, StartsWith, Step, WasCarried, is_taken, new_session}
use Rattle.sam_link.specs.declared.hello.Id.{Id}
use Rattle.sam_link.specs.declared.phase.Role.TheVariants.{Terminal}
use Rattle.sam_host.specs.Asides.{Aside, Joins, Marks}
use Rattle.sam_host.specs.Host.{new_host}
use Rattle.sam_endpoint.specs.HostRuns.{Call as HostCall, Runs, begun_with, came_in, asides_by}
use Rattle.sam_endpoint.specs.HostRuns.{went_out as answered_by}
use Rattle.sam_served.specs.Crashes.{AreLike, went_out}
use Rattle.sam_served.specs.Gates.{gone_count, put_count}
use Rattle.sam_server.specs.Servers.{Acknowledged, Asked, Called, Came, Done, Joined, Makes, Marked, PlainRecord, Said, Server, Takes, new_server}

-- what happened at the server
pub data Entry : Type 0 where
  Took : PlainRecord → Entry  -- it took this record
  Did : Call → Entry  -- bytes of its link were taken out, or a connection broke

abbrev pub record_in : Entry → List PlainRecord
record_in (Took r) = r ∷ []
record_in (Did call) = []

abbrev pub records_in : List Entry → List PlainRecord
records_in log = flat_map record_in log

abbrev pub call_in : Entry → List Call
call_in (Took r) = []
call_in (Did call) = call ∷ []

abbrev pub calls_in : List Entry → List Call
calls_in log = flat_map call_in log

-- a crash leaves the first so many records, with all that happened before the last of them, and what went out
abbrev pub left_of : ℕ → List Entry → List Entry
left_of n [] = []
left_of zero (Took r ∷ log) = left_of zero log
left_of zero (Did call ∷ log) = map Did (went_out call) ++ left_of zero log
left_of (suc n) (Took r ∷ log) = Took r ∷ left_of n log
left_of (suc n) (Did call ∷ log) = Did call ∷ left_of (suc n) log

-- what was done at the host by the record, beside its messages
abbrev pub aside_of : PlainRecord → List Aside
aside_of (Joined name text) = Joins (chars name, chars text) ∷ []
aside_of (Marked f) = Marks f ∷ []
aside_of (Called hello) = []
aside_of (Came attempt piece) = []
aside_of (Said bytes) = []
aside_of Acknowledged = []
aside_of Asked = []
aside_of (Done ending) = []

abbrev pub asides_by_records : List PlainRecord → List Aside
asides_by_records records = flat_map aside_of records

-- what was done at the host by these calls, beside its messages
abbrev pub asides_by_calls : List HostCall → List Aside
asides_by_calls calls = map (λ (aside : ℕ × Aside). aside.1) (flat_map asides_by calls)

-- the piece of the connection that the record has
abbrev pub piece_of : ℕ → PlainRecord → List ℕ
piece_of attempt (Came n piece) = if n == attempt then piece else []
piece_of attempt (Joined name text) = []
piece_of attempt (Marked f) = []
piece_of attempt (Called hello) = []
piece_of attempt (Said bytes) = []
piece_of attempt Acknowledged = []
piece_of attempt Asked = []
piece_of attempt (Done ending) = []

abbrev pub came : ℕ → List PlainRecord → List ℕ
came attempt records = flat_map (piece_of attempt) records

-- what the record brings from a connection was carried there, as for a call: the first 42 bytes are the hello
abbrev pub WasBrought : List PlainRecord → List Call → PlainRecord → Type 0
WasBrought mine theirs (Called hello) = IsFrom theirs hello
WasBrought mine theirs (Came attempt piece) = StartsWith (drop 42 (out attempt theirs)) (came attempt mine ++ piece)
WasBrought mine theirs (Joined name text) = Unit {0}
WasBrought mine theirs (Marked f) = Unit {0}
WasBrought mine theirs (Said bytes) = Unit {0}
WasBrought mine theirs Acknowledged = Unit {0}
WasBrought mine theirs Asked = Unit {0}
WasBrought mine theirs (Done ending) = Unit {0}

-- a terminal, and a host that is a server, with all that happened
pub record Served : Type 0 where
  pub terminal : End
  pub terminal_calls : List Call
  pub server : Server
  pub log : List Entry  -- what crashes have left of it
  pub durable : ℕ  -- how many of the first records each crash will leave, or more

abbrev pub new_served : Id → Served
new_served id = record { terminal = fresh Terminal id; terminal_calls = []; server = new_server id; log = []; durable = 0 }

-- what is made of the first so many records
abbrev pub MadeOf : Id → ℕ → List Entry → Server → Type 0
MadeOf id n log m = Makes (new_server id) (take n (records_in log)) m

-- Bytes go out only where durable records decide them: these have taken the connection, and what is left of its hello may go out, and the
-- stream as far as they put it
abbrev pub MayDo : Id → Served → Call → Type 0
MayDo id w (TakeOut attempt old (Ok count) new) =
    (m : Server) × MadeOf id w.durable w.log m × (m.link.attempt ≡ attempt)
    × (length old ≤ length w.server.link.hello + (put_count m.link - gone_count w.server.link))
MayDo id w (TakeOut attempt old (Err why) new) = Unit {0}
MayDo id w (Break attempt) = Unit {0}
MayDo id w (Dial take_over answer) = ⊥
MayDo id w (Answer hello answer) = ⊥
MayDo id w (Welcome hello answer) = ⊥
MayDo id w (Put bytes answer) = ⊥
MayDo id w (PutNote bytes answer) = ⊥
MayDo id w (Ask answer) = ⊥
MayDo id w (Acknowledge answer) = ⊥
MayDo id w (Feed attempt piece answer) = ⊥
MayDo id w (TakeIn old count new) = ⊥
MayDo id w (NextNote answer) = ⊥

-- what happens
pub data Event : Type 0 where
  ByTerminal : Call → Event
  Take : PlainRecord → Event  -- the server takes a record
  Do : Call → Event  -- bytes are taken out of its link, or a connection breaks
  Sync : ℕ → Event  -- so many records are durable
  Crash : ℕ → Event  -- the server ends, and another is made of so many records

-- after a crash, which left so many records, of which this server was made
abbrev pub crashed : Served → ℕ → Server → Served
crashed w n m = record w { server = record m { link = ended m.link }; log = left_of n w.log ++ Did (Break m.link.attempt) ∷ [] }

-- these events lead from one to the next
abbrev pub LeadsServed : Id → Served → List Event → Served → Type 0
LeadsServed id w [] z = z ≡ w
LeadsServed id w (ByTerminal call ∷ events) z =
    (t : End) × Does w.terminal call t × (is_taken call ≡ true → WasCarried w.terminal_calls (calls_in w.log) call)
    × LeadsServed id (record w { terminal = t; terminal_calls = w.terminal_calls ++ call ∷ [] }) events z
LeadsServed id w (Take r ∷ events) z =
    (s : Server) × Takes w.server r s × WasBrought (records_in w.log) w.terminal_calls r
    × LeadsServed id (record w { server = s; log = w.log ++ Took r ∷ [] }) events z
LeadsServed id w (Do call ∷ events) z =
    (l : End) × Does w.server.link call l × MayDo id w call
    × LeadsServed id (record w { server = record w.server { link = l }; log = w.log ++ Did call ∷ [] }) events z
LeadsServed id w (Sync n ∷ events) z = (w.durable ≤ n) × LeadsServed id (record w { durable = n }) events z
LeadsServed id w (Crash n ∷ events) z =
    (m : Server) × (w.durable ≤ n) × MadeOf id n w.log m × LeadsServed id (crashed w n m) events z

-- ## The law

-- the session of its terminal and of this host
abbrev pub session_of : Served → End → List Call → Session
session_of w host calls = record { terminal = w.terminal; host = host; terminal_calls = w.terminal_calls; host_calls = calls }

-- It is a session without crashes, in which each crash is a break: this terminal with its calls, and a host whose end is like this one,
-- and of which on each connection the same bytes went out. Of the endpoint these are the calls, which led to where it is: it was fed all
-- that came, all that it answered was put, and files joined and were marked as the records say
pub record IsSession (id : Id) (w : Served) : Type 0 where
  pub steps : List Step
  pub host : End
  pub host_calls : List Call
  pub leads : Leads (new_session id) steps (session_of w host host_calls)
  pub like : AreLike w.server.link host
  pub outs : (attempt : ℕ) → out attempt host_calls ≡ out attempt (calls_in w.log)
  pub answers : List HostCall
  pub runs : Runs (begun_with (new_host [])) answers w.server.host
  pub took : flat_map came_in answers ≡ bytes_of (handed host_calls)
  pub put_all : bytes_of (put host_calls) ≡ flat_map answered_by answers
  pub asides : asides_by_calls answers ≡ asides_by_records (records_in w.log)

abbrev pub ServedAreSessions : Type 0
ServedAreSessions = (id : Id) (events : List Event) (w : Served) → LeadsServed id (new_served id) events w → IsSession id w

-- of whatever a crash may leave of the records, a server is made: nothing that it took is refused when it is taken again
abbrev pub ServedAreMade : Type 0
ServedAreMade =
    (id : Id) (events : List Event) (w : Served) (n : ℕ) → LeadsServed id (new_served id) events w → w.durable ≤ n
    → (m : Server) × MadeOf id n w.log m
