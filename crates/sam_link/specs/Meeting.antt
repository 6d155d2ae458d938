-- What two ends of one session may answer each other, what is there once all was carried, and what a good line delivers.
use Rattle.std.specs.Prelude.{◌≡◌, ℕ, ◌+◌, ◌-◌, ◌^◌, ◌<◌, ◌≤◌, List, [], ◌∷◌, ◌++◌, length, drop, true, IsOk, Result, Ok, Err}
use Rattle.std.specs.List.{flat_map}
use Rattle.sam_frame.specs.Stream.{FitInTurn, stream_of}
use Rattle.sam_link.specs.Calls.{Call, Does, fed, handed, items_in, out, put, waits}
use Rattle.sam_link.specs.Calls.Call.{Acknowledge, Answer, Ask, Break, Dial, Feed, NextNote, Put, PutNote, TakeIn, TakeOut, Welcome}
use Rattle.sam_link.specs.End.{End, is_asking}
use Rattle.sam_link.specs.Feeding.{has_room, is_open}
use Rattle.sam_link.specs.Keeping.{MayHave}
use Rattle.sam_link.specs.Packets.{Packet, packets}
use Rattle.sam_link.specs.Sessions.{ByHost, ByTerminal, IsFrom, IsId, Leads, Session, Step, WasCarried, new_session}
use Rattle.sam_link.specs.declared.fault.AnswerFault.{AnswerFault}
use Rattle.sam_link.specs.declared.fault.WelcomeFault.{WelcomeFault}
use Rattle.sam_link.specs.declared.hello.Hello.{Hello}
use Rattle.sam_link.specs.declared.fault.AnswerFault.TheVariants as answers
use Rattle.sam_link.specs.declared.fault.FeedFault.{FeedFault}
use Rattle.sam_link.specs.declared.fault.FeedFault.TheVariants as feeds
use Rattle.sam_link.specs.declared.fault.NotOpen.{NotOpen}
use Rattle.sam_link.specs.declared.fault.WelcomeFault.TheVariants as welcomes
use Rattle.sam_link.specs.declared.hello.Id.{Id}
use Rattle.sam_link.specs.declared.hello.Refusal.TheVariants.{OldAttempt}

-- ## What is refused

-- The end finds no fault in what the other end sent: it takes a hello, or the connection is an old one; and no piece is wrong, or
-- acknowledges what did not go
abbrev pub FindsNoFault : Call → Type 0
FindsNoFault (Dial take_over answer) = Unit {0}
FindsNoFault (Answer hello (Ok done)) = Unit {0}
FindsNoFault (Answer hello (Err answers.WrongRole)) = Unit {0}
FindsNoFault (Answer hello (Err (answers.Refused why))) = why ≡ OldAttempt
FindsNoFault (Welcome hello (Ok done)) = Unit {0}
FindsNoFault (Welcome hello (Err welcomes.WrongRole)) = Unit {0}
FindsNoFault (Welcome hello (Err welcomes.NotOpen)) = Unit {0}
FindsNoFault (Welcome hello (Err (welcomes.ByHost why))) = ⊥
FindsNoFault (Welcome hello (Err (welcomes.Here why))) = why ≡ OldAttempt
FindsNoFault (Break attempt) = Unit {0}
FindsNoFault (Put bytes answer) = Unit {0}
FindsNoFault (PutNote bytes answer) = Unit {0}
FindsNoFault (Ask answer) = Unit {0}
FindsNoFault (Acknowledge answer) = Unit {0}
FindsNoFault (TakeOut n old answer new) = Unit {0}
FindsNoFault (Feed attempt piece (Ok done)) = Unit {0}
FindsNoFault (Feed attempt piece (Err feeds.NotOpen)) = Unit {0}
FindsNoFault (Feed attempt piece (Err feeds.CountFull)) = Unit {0}
FindsNoFault (Feed attempt piece (Err feeds.OutOfMemory)) = Unit {0}
FindsNoFault (Feed attempt piece (Err (feeds.Wrong fault))) = ⊥
FindsNoFault (Feed attempt piece (Err feeds.AckAhead)) = ⊥
FindsNoFault (TakeIn old count new) = Unit {0}
FindsNoFault (NextNote answer) = Unit {0}

-- after any calls, the next call of either end, where what it brings was carried
abbrev pub HonestMeet : Type 0
HonestMeet =
    (id : Id) (steps : List Step) (s : Session) (call : Call) (next : End) → IsId id → Leads (new_session id) steps s
    → (Does s.terminal call next → WasCarried s.terminal_calls s.host_calls call → FindsNoFault call)
    × (Does s.host call next → WasCarried s.host_calls s.terminal_calls call → FindsNoFault call)

-- ## What is kept

-- what an end keeps is the stream of packets whose data and notes are what was put, from the acknowledged count on
pub record KeepsTheRest (e : End) (calls : List Call) : Type 0 where
  pub all : List Packet
  pub fit : FitInTurn packets 1 all
  pub put_are : put calls ≡ flat_map items_in all
  pub kept_is : e.keeps.kept ≡ drop e.keeps.base (stream_of packets all)

-- at any moment that is all that the other has not received, or more
pub record KeepsWhatLacks (s : Session) : Type 0 where
  pub terminal_keeps : KeepsTheRest s.terminal s.terminal_calls
  pub host_keeps : KeepsTheRest s.host s.host_calls
  pub up : MayHave s.terminal.keeps s.host.received
  pub down : MayHave s.host.keeps s.terminal.received

abbrev pub LacksAreKept : Type 0
LacksAreKept = (id : Id) (steps : List Step) (s : Session) → IsId id → Leads (new_session id) steps s → KeepsWhatLacks s

-- nothing is left to go on this connection
pub record IsSpent (e : End) : Type 0 where
  pub is_open : is_open e.phase ≡ true
  pub no_hello : e.hello ≡ []
  pub none_kept_back : e.keeps.sent ≡ length e.keeps.kept

-- a connection has carried all: nothing is left to go, and all that went has come
pub record IsAllCarried (s : Session) : Type 0 where
  pub terminal_spent : IsSpent s.terminal
  pub host_spent : IsSpent s.host
  pub up : fed s.host.attempt s.host_calls ≡ drop 42 (out s.host.attempt s.terminal_calls)
  pub down : fed s.terminal.attempt s.terminal_calls ≡ drop 42 (out s.terminal.attempt s.host_calls)

-- all that was put at the terminal came out at the host, or waits there in its order; and likewise down
abbrev pub IsAllUp : Session → Type 0
IsAllUp s = put s.terminal_calls ≡ handed s.host_calls ++ waits s.host.waiting

abbrev pub IsAllDown : Session → Type 0
IsAllDown s = put s.host_calls ≡ handed s.terminal_calls ++ waits s.terminal.waiting

-- All that was put came out, or waits there in its order. And each end keeps less than what is acknowledged unasked, unless the other's
-- stream has no room for an acknowledgement
pub record AllCame (s : Session) : Type 0 where
  pub up : IsAllUp s
  pub down : IsAllDown s
  pub kept_up : has_room s.host.keeps 11 ≡ true → length s.terminal.keeps.kept < 16384
  pub kept_down : has_room s.terminal.keeps 11 ≡ true → length s.host.keeps.kept < 16384

abbrev pub CarriedIsAll : Type 0
CarriedIsAll = (id : Id) (steps : List Step) (s : Session) → IsId id → Leads (new_session id) steps s → IsAllCarried s → AllCame s

-- ## What a good line delivers

-- how many bytes an end has for its connection
abbrev pub to_go : End → ℕ
to_go e = length e.hello + (length e.keeps.kept - e.keeps.sent)

-- both ends have said hello on one connection
pub record HaveMet (s : Session) : Type 0 where
  pub terminal_open : is_open s.terminal.phase ≡ true
  pub host_open : is_open s.host.phase ≡ true
  pub is_one : s.host.attempt ≡ s.terminal.attempt

-- an end may take out what it has
abbrev pub Sends : End → Type 0
Sends e = (old new : List ℕ) (answer : Result ℕ NotOpen) (n : End) → Does e (TakeOut e.attempt old answer new) n → IsOk answer

-- a piece is taken, unless memory is refused or a count is full
abbrev pub TakenWithRoom : End → List ℕ → Result (Unit {0}) FeedFault → Type 0
TakenWithRoom e piece (Ok done) = Unit {0}
TakenWithRoom e piece (Err feeds.OutOfMemory) = Unit {0}
TakenWithRoom e piece (Err feeds.CountFull) = 2 ^ 64 ≤ e.received + length piece
TakenWithRoom e piece (Err feeds.NotOpen) = ⊥
TakenWithRoom e piece (Err (feeds.Wrong fault)) = ⊥
TakenWithRoom e piece (Err feeds.AckAhead) = ⊥

abbrev pub TakesIn : End → List Call → List Call → Type 0
TakesIn e mine theirs =
    (piece : List ℕ) (answer : Result (Unit {0}) FeedFault) (n : End) → Does e (Feed e.attempt piece answer) n
    → WasCarried mine theirs (Feed e.attempt piece answer) → TakenWithRoom e piece answer

-- One turn each way delivers all: an end takes out what it has, into room enough, and the other takes what has come. Then all that was put
-- came out, or waits there in its order
pub record DeliversUp (s : Session) : Type 0 where
  pub sends : Sends s.terminal
  pub takes : TakesIn s.host s.host_calls s.terminal_calls
  pub all_comes : (z : Session) (old new piece : List ℕ) (count : ℕ) → to_go s.terminal ≤ length old
      → Leads s (ByTerminal (TakeOut s.terminal.attempt old (Ok count) new) ∷ ByHost (Feed s.host.attempt piece (Ok tt)) ∷ []) z
      → fed s.host.attempt z.host_calls ≡ drop 42 (out s.host.attempt z.terminal_calls)
      → IsAllUp z

pub record DeliversDown (s : Session) : Type 0 where
  pub sends : Sends s.host
  pub takes : TakesIn s.terminal s.terminal_calls s.host_calls
  pub all_comes : (z : Session) (old new piece : List ℕ) (count : ℕ) → to_go s.host ≤ length old
      → Leads s (ByHost (TakeOut s.host.attempt old (Ok count) new) ∷ ByTerminal (Feed s.terminal.attempt piece (Ok tt)) ∷ []) z
      → fed s.terminal.attempt z.terminal_calls ≡ drop 42 (out s.terminal.attempt z.host_calls)
      → IsAllDown z

abbrev pub GoodLineDelivers : Type 0
GoodLineDelivers =
    (id : Id) (steps : List Step) (s : Session) → IsId id → Leads (new_session id) steps s → HaveMet s → DeliversUp s × DeliversDown s

-- ## Connections are made

-- The terminal's next connection is newer than any that the host has taken. A hello of a newer one, which was carried, is taken; and where
-- the terminal waits for a welcome, the host's hello on that connection, which was carried, is taken
pub record Connects (s : Session) : Type 0 where
  pub newer : s.host.attempt ≤ s.terminal.attempt
  pub taken : (hello : Hello) (answer : Result (Unit {0}) AnswerFault) (n : End) → s.host.attempt < hello.attempt
      → Does s.host (Answer hello answer) n → IsFrom s.terminal_calls hello → IsOk answer
  pub welcome : (hello : Hello) (answer : Result (Unit {0}) WelcomeFault) (n : End) → is_asking s.terminal.phase ≡ true
      → hello.attempt ≡ s.terminal.attempt → Does s.terminal (Welcome hello answer) n → IsFrom s.host_calls hello → IsOk answer

abbrev pub ConnectionsAreMade : Type 0
ConnectionsAreMade = (id : Id) (steps : List Step) (s : Session) → IsId id → Leads (new_session id) steps s → Connects s
