-- A line and a host's end of one session, in any calls of both, over connections that may break anywhere.
use Rattle.std.specs.Prelude.{◌≡◌, ◌≢◌, ℕ, ◌≤◌, ◌==◌, List, [], ◌∷◌, ◌++◌, length, flat_map, Bool, true, if◌then◌else◌, Ok, Err}
use Rattle.sam_link.specs.Calls.{Call, Does, handed, out, put, waits}
use Rattle.sam_link.specs.Calls.Call.{TakeOut as LinkTakeOut}
use Rattle.sam_link.specs.End.{End, fresh}
use Rattle.sam_link.specs.Sessions.{IsId, StartsWith, WasCarried, is_taken}
use Rattle.sam_link.specs.declared.hello.Id.{Id}
use Rattle.sam_link.specs.declared.phase.Role.TheVariants.{Host}
use Rattle.sam_line.specs.Calls.{LineCall, LineDoes, handed_by, put_by}
use Rattle.sam_line.specs.Calls.LineCall.{Acknowledge, AddressChanged, Ask, Broken, Connected, Expect, NextNote, NotConnected, Put, PutNote, Receive, TakeIn, TakeOut, TickAt}
use Rattle.sam_line.specs.Greeting.{IsBefore}
use Rattle.sam_line.specs.Line.{begun, has_all}
use Rattle.sam_line.specs.declared.fault.ReceiveFault.TheVariants.{Over}
use Rattle.sam_line.specs.declared.line.Line.{Line}

-- ## What a connection brings

-- what the line took of this connection
abbrev pub took_by : ℕ → LineCall → List ℕ
took_by attempt (TickAt now answer) = []
took_by attempt (Connected now answer) = []
took_by attempt (NotConnected now) = []
took_by attempt (Broken n now) = []
took_by attempt (AddressChanged now) = []
took_by attempt (Expect expects now) = []
took_by attempt (Receive n piece now (Ok done)) = if n == attempt then piece else []
took_by attempt (Receive n piece now (Err why)) = []
took_by attempt (Put bytes now answer) = []
took_by attempt (PutNote bytes now answer) = []
took_by attempt (Ask now answer) = []
took_by attempt (Acknowledge answer) = []
took_by attempt (TakeOut n old answer new) = []
took_by attempt (TakeIn old count new) = []
took_by attempt (NextNote old count new) = []

abbrev pub took : ℕ → List LineCall → List ℕ
took attempt calls = flat_map (took_by attempt) calls

-- These bytes are the first that a connection brings: words that a login prints, in which no hello begins, and then what the host took out
-- for that connection
pub record IsBrought (theirs : List Call) (attempt : ℕ) (bytes : List ℕ) : Type 0 where
  pub words : List ℕ
  pub behind : IsBefore (words ++ out attempt theirs) (length words)
  pub front : StartsWith (words ++ out attempt theirs) bytes

-- what the line is given is brought, but for pieces of older connections
abbrev pub WasBrought : List LineCall → List Call → LineCall → Type 0
WasBrought mine theirs (TickAt now answer) = Unit {0}
WasBrought mine theirs (Connected now answer) = Unit {0}
WasBrought mine theirs (NotConnected now) = Unit {0}
WasBrought mine theirs (Broken n now) = Unit {0}
WasBrought mine theirs (AddressChanged now) = Unit {0}
WasBrought mine theirs (Expect expects now) = Unit {0}
WasBrought mine theirs (Receive n piece now answer) =
    (answer ≢ Err Over) → IsBrought theirs n (took n mine ++ piece)
WasBrought mine theirs (Put bytes now answer) = Unit {0}
WasBrought mine theirs (PutNote bytes now answer) = Unit {0}
WasBrought mine theirs (Ask now answer) = Unit {0}
WasBrought mine theirs (Acknowledge answer) = Unit {0}
WasBrought mine theirs (TakeOut n old answer new) = Unit {0}
WasBrought mine theirs (TakeIn old count new) = Unit {0}
WasBrought mine theirs (NextNote old count new) = Unit {0}

-- what the line took out, as calls of its link
abbrev pub out_of : LineCall → List Call
out_of (TickAt now answer) = []
out_of (Connected now answer) = []
out_of (NotConnected now) = []
out_of (Broken n now) = []
out_of (AddressChanged now) = []
out_of (Expect expects now) = []
out_of (Receive n piece now answer) = []
out_of (Put bytes now answer) = []
out_of (PutNote bytes now answer) = []
out_of (Ask now answer) = []
out_of (Acknowledge answer) = []
out_of (TakeOut n old answer new) = LinkTakeOut n old answer new ∷ []
out_of (TakeIn old count new) = []
out_of (NextNote old count new) = []

abbrev pub outs : List LineCall → List Call
outs calls = flat_map out_of calls

-- ## A session

pub data LineStep : Type 0 where
  ByLine : LineCall → LineStep
  ByHost : Call → LineStep

pub record LineSession : Type 0 where
  pub line : Line
  pub host : End
  pub line_calls : List LineCall
  pub host_calls : List Call

abbrev pub new_line_session : Id → Bool → ℕ → LineSession
new_line_session id take_over now = record { line = begun id take_over now; host = fresh Host id; line_calls = []; host_calls = [] }

abbrev pub line_did : LineSession → LineCall → Line → LineSession
line_did s call n = record s { line = n; line_calls = s.line_calls ++ call ∷ [] }

abbrev pub host_did : LineSession → Call → End → LineSession
host_did s call h = record s { host = h; host_calls = s.host_calls ++ call ∷ [] }

-- These calls, of the one end or the other, lead from one session to the next: what the line was given was brought, and what the host took
-- was carried
abbrev pub LineLeads : LineSession → List LineStep → LineSession → Type 0
LineLeads s [] z = z ≡ s
LineLeads s (ByLine call ∷ steps) z =
    (n : Line) × LineDoes s.line call n × WasBrought s.line_calls s.host_calls call × LineLeads (line_did s call n) steps z
LineLeads s (ByHost call ∷ steps) z =
    (h : End) × Does s.host call h × (is_taken call ≡ true → WasCarried s.host_calls (outs s.line_calls) call)
    × LineLeads (host_did s call h) steps z

-- what came out at each end is the first of what was put at the other: each byte and each note once, in their order
pub record LineCarries (s : LineSession) : Type 0 where
  pub up : StartsWith (flat_map put_by s.line_calls) (handed s.host_calls)
  pub down : StartsWith (put s.host_calls) (flat_map handed_by s.line_calls)

abbrev pub LinesCarry : Type 0
LinesCarry =
    (id : Id) (take_over : Bool) (now : ℕ) (steps : List LineStep) (s : LineSession) → IsId id
    → LineLeads (new_line_session id take_over now) steps s → LineCarries s

-- The host has received as many bytes of the stream as there were once more was put last; and all that was put came out there, or waits
-- there, in its order
pub record HostHasAll (s : LineSession) : Type 0 where
  pub received : s.line.question.due ≤ s.host.received
  pub there : flat_map put_by s.line_calls ≡ handed s.host_calls ++ waits s.host.waiting

-- so it is where the line says that all is acknowledged
abbrev pub HasAllIsTrue : Type 0
HasAllIsTrue =
    (id : Id) (take_over : Bool) (now : ℕ) (steps : List LineStep) (s : LineSession) → IsId id
    → LineLeads (new_line_session id take_over now) steps s → has_all s.line ≡ true → HostHasAll s
