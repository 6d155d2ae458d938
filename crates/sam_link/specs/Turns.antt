-- A connection begins by two hellos, and then both ends take turns.
use Rattle.std.specs.Prelude.{◌≡◌, ℕ, ◌<◌, ◌≤◌, List, [], ◌∷◌, length, drop, Bool, true, IsOk, Option, Some, Result, Ok}
use Rattle.sam_link.specs.Calls.{Does, fed, out, put}
use Rattle.sam_link.specs.Calls.Call.{Answer, Dial, Feed, TakeOut, Welcome}
use Rattle.sam_link.specs.End.{End, is_asking}
use Rattle.sam_link.specs.Feeding.{is_open}
use Rattle.sam_link.specs.Hellos.{ReadsHello}
use Rattle.sam_link.specs.Meeting.{HaveMet, IsAllDown, IsAllUp, to_go}
use Rattle.sam_link.specs.Sessions.{ByHost, ByTerminal, IsId, Leads, Session, Step, new_session, terminal_did}
use Rattle.sam_link.specs.declared.fault.AnswerFault.{AnswerFault}
use Rattle.sam_link.specs.declared.fault.WelcomeFault.{WelcomeFault}
use Rattle.sam_link.specs.declared.hello.Hello.{Hello}
use Rattle.sam_link.specs.declared.hello.Id.{Id}
use Rattle.sam_link.specs.declared.hello.Refusal.{Refusal}

-- ## Two hellos

-- the terminal has called, its hello went, and the host has not taken it yet
pub record HasCalled (s : Session) : Type 0 where
  pub asking : is_asking s.terminal.phase ≡ true
  pub newer : s.host.attempt < s.terminal.attempt
  pub went : 42 ≤ length (out s.terminal.attempt s.terminal_calls)

-- so it is once the terminal has called, and has taken out what it has into room for a hello, or more
abbrev pub CallsGo : Session → Type 0
CallsGo s =
    (z : Session) (take_over : Bool) (attempt count : ℕ) (old new : List ℕ) → 42 ≤ length old
    → Leads s (ByTerminal (Dial take_over (Ok attempt)) ∷ ByTerminal (TakeOut attempt old (Ok count) new) ∷ []) z → HasCalled z

-- the end is open on the connection that the terminal made last
pub record IsOn (s : Session) (e : End) : Type 0 where
  pub opened : is_open e.phase ≡ true
  pub is_one : e.attempt ≡ s.terminal.attempt

-- what is read of the bytes that went to the host is a hello, and the host takes it
abbrev pub IsAnswered : Session → Type 0
IsAnswered s =
    (read : Result (Option Hello) Refusal) → ReadsHello (out s.terminal.attempt s.terminal_calls) read
    → (hello : Hello) × (read ≡ Ok (Some hello))
    × ((answer : Result (Unit {0}) AnswerFault) (n : End) → Does s.host (Answer hello answer) n → IsOk answer × IsOn s n)

-- the host has taken the connection on which the terminal waits for a welcome, and its hello went
pub record HasAnswered (s : Session) : Type 0 where
  pub asking : is_asking s.terminal.phase ≡ true
  pub on : IsOn s s.host
  pub went : 42 ≤ length (out s.terminal.attempt s.host_calls)

-- so it is once the host has taken the connection, and has taken out what it has into room for a hello, or more
abbrev pub AnswersGo : Session → Type 0
AnswersGo s =
    (z : Session) (hello : Hello) (count : ℕ) (old new : List ℕ) → 42 ≤ length old
    → is_asking s.terminal.phase ≡ true → hello.attempt ≡ s.terminal.attempt
    → Leads s (ByHost (Answer hello (Ok tt)) ∷ ByHost (TakeOut hello.attempt old (Ok count) new) ∷ []) z → HasAnswered z

-- what is read of the bytes that went to the terminal is a hello, the terminal takes it, and both have met
abbrev pub IsWelcomed : Session → Type 0
IsWelcomed s =
    (read : Result (Option Hello) Refusal) → ReadsHello (out s.terminal.attempt s.host_calls) read
    → (hello : Hello) × (read ≡ Ok (Some hello))
    × ((answer : Result (Unit {0}) WelcomeFault) (n : End) → Does s.terminal (Welcome hello answer) n
    → IsOk answer × HaveMet (terminal_did s (Welcome hello answer) n))

-- after any calls
abbrev pub HellosAreTaken : Type 0
HellosAreTaken =
    (id : Id) (steps : List Step) (s : Session) → IsId id → Leads (new_session id) steps s
    → CallsGo s × (HasCalled s → IsAnswered s) × AnswersGo s × (HasAnswered s → IsWelcomed s)

-- A new connection: the terminal calls, and its hello goes; the host answers what it reads of that, and its own hello goes; and the
-- terminal gets what it reads of this. Whatever the two answer
pub record NewConnection (s z : Session) : Type 0 where
  pub called : Session
  pub answered : Session
  pub take_over : Bool
  pub attempt : ℕ
  pub up_old : List ℕ
  pub up_new : List ℕ
  pub up_count : ℕ
  pub hello : Hello
  pub answer : Result (Unit {0}) AnswerFault
  pub down_old : List ℕ
  pub down_new : List ℕ
  pub down_count : ℕ
  pub welcome : Hello
  pub welcomed : Result (Unit {0}) WelcomeFault
  pub room_up : 42 ≤ length up_old
  pub room_down : 42 ≤ length down_old
  pub calls : Leads s (ByTerminal (Dial take_over (Ok attempt)) ∷ ByTerminal (TakeOut attempt up_old (Ok up_count) up_new) ∷ []) called
  pub hello_read : ReadsHello (out attempt called.terminal_calls) (Ok (Some hello))
  pub answers : Leads called (ByHost (Answer hello answer) ∷ ByHost (TakeOut attempt down_old (Ok down_count) down_new) ∷ []) answered
  pub welcome_read : ReadsHello (out attempt answered.host_calls) (Ok (Some welcome))
  pub ends : Leads answered (ByTerminal (Welcome welcome welcomed) ∷ []) z

abbrev pub NewConnectionsMeet : Type 0
NewConnectionsMeet =
    (id : Id) (steps : List Step) (s z : Session) → IsId id → Leads (new_session id) steps s → NewConnection s z → HaveMet z

-- ## Turns

-- the terminal takes out all that it has, and the host takes all that has come
pub record TurnsUp (s z : Session) : Type 0 where
  pub old : List ℕ
  pub new : List ℕ
  pub piece : List ℕ
  pub count : ℕ
  pub room : to_go s.terminal ≤ length old
  pub leads : Leads s (ByTerminal (TakeOut s.terminal.attempt old (Ok count) new) ∷ ByHost (Feed s.host.attempt piece (Ok tt)) ∷ []) z
  pub all : fed s.host.attempt z.host_calls ≡ drop 42 (out s.host.attempt z.terminal_calls)

-- and the other way round
pub record TurnsDown (s z : Session) : Type 0 where
  pub old : List ℕ
  pub new : List ℕ
  pub piece : List ℕ
  pub count : ℕ
  pub room : to_go s.host ≤ length old
  pub leads : Leads s (ByHost (TakeOut s.host.attempt old (Ok count) new) ∷ ByTerminal (Feed s.terminal.attempt piece (Ok tt)) ∷ []) z
  pub all : fed s.terminal.attempt z.terminal_calls ≡ drop 42 (out s.terminal.attempt z.host_calls)

-- Any calls, one turn up, any calls, one turn down, and any calls; where each turn begins, both have met. The terminal puts nothing after
-- its turn, nor the host after its own
pub record TakeTurns (s z : Session) : Type 0 where
  pub first : Session
  pub came_up : Session
  pub next : Session
  pub came_down : Session
  pub before : List Step
  pub between : List Step
  pub after : List Step
  pub begins : Leads s before first
  pub met_up : HaveMet first
  pub up : TurnsUp first came_up
  pub goes_on : Leads came_up between next
  pub met_down : HaveMet next
  pub down : TurnsDown next came_down
  pub ends : Leads came_down after z
  pub none_up : put z.terminal_calls ≡ put came_up.terminal_calls
  pub none_down : put z.host_calls ≡ put came_down.host_calls

-- such turns bring all that was put to the other side
abbrev pub TurnsDeliver : Type 0
TurnsDeliver =
    (id : Id) (steps : List Step) (s z : Session) → IsId id → Leads (new_session id) steps s → TakeTurns s z → IsAllUp z × IsAllDown z
