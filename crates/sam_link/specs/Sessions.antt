-- A terminal end and a host end of one session, in any calls of both, over connections that break.
use Rattle.std.specs.Prelude.{◌≡◌, ◌<◌, ◌^◌, List, [], ◌∷◌, ◌++◌, drop, Bool, true, false, Ok, Err}
use Rattle.sam_link.specs.Calls.{Call, Does, fed, handed, out, put}
use Rattle.sam_link.specs.Calls.Call.{Acknowledge, Answer, Ask, Break, Dial, Feed, NextNote, Put, PutNote, TakeIn, TakeOut, Welcome}
use Rattle.sam_link.specs.End.{End, fresh}
use Rattle.sam_link.specs.Hellos.{IsHello, spelled}
use Rattle.sam_link.specs.declared.hello.Hello.{Hello}
use Rattle.sam_link.specs.declared.hello.Id.{Id}
use Rattle.sam_link.specs.declared.phase.Role.TheVariants.{Terminal, Host}

-- the list starts with this one
pub record StartsWith {A : Type 0} (whole front : List A) : Type 0 where
  pub rest : List A
  pub is : whole ≡ front ++ rest

-- ## What a line does

-- The hello is the first that the other end took out on that connection
abbrev pub IsFrom : List Call → Hello → Type 0
IsFrom theirs hello = IsHello hello × StartsWith (out hello.attempt theirs) (spelled hello)

-- What the call brings from a connection, after `mine`, the calls of this end, and `theirs`, those of the other end: a hello is the first
-- that the other end took out there, and what was fed, with this piece, is the first of what it took out behind its hello. Bytes after
-- that are lost, or have not come yet
abbrev pub WasCarried : List Call → List Call → Call → Type 0
WasCarried mine theirs (Answer hello answer) = IsFrom theirs hello
WasCarried mine theirs (Welcome hello answer) = IsFrom theirs hello
WasCarried mine theirs (Feed attempt piece answer) = StartsWith (drop 42 (out attempt theirs)) (fed attempt mine ++ piece)
WasCarried mine theirs (Dial take_over answer) = Unit {0}
WasCarried mine theirs (Break attempt) = Unit {0}
WasCarried mine theirs (Put bytes answer) = Unit {0}
WasCarried mine theirs (PutNote bytes answer) = Unit {0}
WasCarried mine theirs (Ask answer) = Unit {0}
WasCarried mine theirs (Acknowledge answer) = Unit {0}
WasCarried mine theirs (TakeOut n old answer new) = Unit {0}
WasCarried mine theirs (TakeIn old count new) = Unit {0}
WasCarried mine theirs (NextNote answer) = Unit {0}

-- the end took what the call brought
abbrev pub is_taken : Call → Bool
is_taken (Dial take_over answer) = false
is_taken (Answer hello (Ok done)) = true
is_taken (Answer hello (Err why)) = false
is_taken (Welcome hello (Ok done)) = true
is_taken (Welcome hello (Err why)) = false
is_taken (Break attempt) = false
is_taken (Put bytes answer) = false
is_taken (PutNote bytes answer) = false
is_taken (Ask answer) = false
is_taken (Acknowledge answer) = false
is_taken (TakeOut n old answer new) = false
is_taken (Feed attempt piece (Ok done)) = true
is_taken (Feed attempt piece (Err why)) = false
is_taken (TakeIn old count new) = false
is_taken (NextNote answer) = false

-- ## A session

pub data Step : Type 0 where
  ByTerminal : Call → Step
  ByHost : Call → Step

-- both ends, and all calls so far
pub record Session : Type 0 where
  pub terminal : End
  pub host : End
  pub terminal_calls : List Call
  pub host_calls : List Call

abbrev pub new_session : Id → Session
new_session id = record { terminal = fresh Terminal id; host = fresh Host id; terminal_calls = []; host_calls = [] }

abbrev pub terminal_did : Session → Call → End → Session
terminal_did s call t = record s { terminal = t; terminal_calls = s.terminal_calls ++ call ∷ [] }

abbrev pub host_did : Session → Call → End → Session
host_did s call h = record s { host = h; host_calls = s.host_calls ++ call ∷ [] }

-- These calls, of the one end or the other, lead from one session to the next. What an end took was carried; nothing is said of what it
-- refused
abbrev pub Leads : Session → List Step → Session → Type 0
Leads s [] z = z ≡ s
Leads s (ByTerminal call ∷ steps) z =
    (t : End) × Does s.terminal call t × (is_taken call ≡ true → WasCarried s.terminal_calls s.host_calls call)
    × Leads (terminal_did s call t) steps z
Leads s (ByHost call ∷ steps) z =
    (h : End) × Does s.host call h × (is_taken call ≡ true → WasCarried s.host_calls s.terminal_calls call)
    × Leads (host_did s call h) steps z

-- the name of the session has 16 bytes
abbrev pub IsId : Id → Type 0
IsId id = (id.first < 2 ^ 64) × (id.last < 2 ^ 64)

-- ## The laws

-- what came out at each end is the first of what was put at the other: each byte and each note once, in their order
pub record Carries (s : Session) : Type 0 where
  pub up : StartsWith (put s.terminal_calls) (handed s.host_calls)
  pub down : StartsWith (put s.host_calls) (handed s.terminal_calls)

abbrev pub LinksCarry : Type 0
LinksCarry = (id : Id) (steps : List Step) (s : Session) → IsId id → Leads (new_session id) steps s → Carries s
