-- One end of a link, and what its calls do.
use Rattle.std.specs.Prelude.{◌≡◌, ℕ, ◌+◌, ◌-◌, ◌^◌, ◌<◌, List, [], ◌++◌, length, take, drop, min, Bool, true, false, not, ◌&&◌, ◌==◌, nat_le, if◌then◌else◌, Option, None, Some, Result, Ok, Err}
use Rattle.sam_link.specs.Hellos.{spelled}
use Rattle.sam_link.specs.Inbox.{Waiting}
use Rattle.sam_link.specs.Keeping.{Keeps, begun, may_have}
use Rattle.sam_link.specs.declared.hello.Hello.{Hello}
use Rattle.sam_link.specs.declared.hello.Id.{Id}
use Rattle.sam_link.specs.declared.hello.Refusal.{Refusal}
use Rattle.sam_link.specs.declared.hello.Refusal.TheVariants.{BadHello, NoSession, OtherSession, OldAttempt, WrongCount}
use Rattle.sam_link.specs.declared.hello.What.{What}
use Rattle.sam_link.specs.declared.hello.What.TheVariants.{Begin, Resume, TakeOver, Welcome, Refused}
use Rattle.sam_link.specs.declared.fault.AnswerFault.{AnswerFault}
use Rattle.sam_link.specs.declared.fault.AnswerFault.TheVariants as answers
use Rattle.sam_link.specs.declared.fault.CallFault.{CallFault}
use Rattle.sam_link.specs.declared.fault.CallFault.TheVariants as calls
use Rattle.sam_link.specs.declared.fault.WelcomeFault.{WelcomeFault}
use Rattle.sam_link.specs.declared.fault.WelcomeFault.TheVariants as welcomes
use Rattle.sam_link.specs.declared.fault.NotOpen.{NotOpen}
use Rattle.sam_link.specs.declared.phase.Phase.{Phase}
use Rattle.sam_link.specs.declared.phase.Phase.TheVariants.{Down, Asking, Open}
use Rattle.sam_link.specs.declared.phase.Role.{Role}
use Rattle.sam_link.specs.declared.phase.Role.TheVariants.{Terminal, Host}

pub record End : Type 0 where
  pub role : Role
  pub id : Id
  pub attempt : ℕ  -- the newest connection; 0 before the first
  pub phase : Phase
  pub is_known : Bool  -- the other side has taken a connection, or this side has
  pub hello : List ℕ  -- what is left to send of the hello
  pub keeps : Keeps
  pub received : ℕ  -- how many bytes of the other side's stream have come
  pub told : ℕ  -- how many of them the other side was told of
  pub held : List ℕ  -- the last of them, which are no whole packet yet
  pub waiting : Waiting

abbrev pub fresh : Role → Id → End
fresh role id =
    record {
      role = role;
      id = id;
      attempt = 0;
      phase = Down;
      is_known = false;
      hello = [];
      keeps = record { base = 0; kept = []; sent = 0 };
      received = 0;
      told = 0;
      held = [];
      waiting = record { part = []; packets = [] };
    }

-- a hello is to be sent, which tells how many bytes have come
abbrev pub says : End → What → End
says e what =
    record e {
      hello = spelled (record { what = what; id = e.id; attempt = e.attempt; received = e.received });
      told = e.received;
    }

-- ## The terminal calls

abbrev pub first_word : Bool → Bool → What
first_word is_known take_over = if is_known then Resume else if take_over then TakeOver else Begin

abbrev pub called : End → Bool → End
called e take_over =
    says (record e { attempt = e.attempt + 1; phase = Asking; keeps = record e.keeps { sent = 0 } }) (first_word e.is_known take_over)

abbrev pub CallsBy : Role → End → Bool → Result ℕ CallFault → End → Type 0
CallsBy Terminal e take_over (Ok attempt) n = (attempt ≡ e.attempt + 1) × (attempt < 2 ^ 64) × (n ≡ called e take_over)
CallsBy Terminal e take_over (Err calls.CountFull) n = (e.attempt ≡ 2 ^ 64 - 1) × (n ≡ e)
CallsBy Terminal e take_over (Err calls.WrongRole) n = ⊥
CallsBy Host e take_over (Err calls.WrongRole) n = n ≡ e
CallsBy Host e take_over (Err calls.CountFull) n = ⊥
CallsBy Host e take_over (Ok attempt) n = ⊥

abbrev pub Calls : End → Bool → Result ℕ CallFault → End → Type 0
Calls e take_over result n = CallsBy e.role e take_over result n

-- ## A hello is taken or refused

abbrev pub same_id : Id → Id → Bool
same_id a b = (a.first == b.first) && (a.last == b.last)

abbrev pub is_call : What → Bool
is_call Begin = true
is_call Resume = true
is_call TakeOver = true
is_call Welcome = false
is_call (Refused why) = false

abbrev pub is_resume : What → Bool
is_resume Begin = false
is_resume Resume = true
is_resume TakeOver = false
is_resume Welcome = false
is_resume (Refused why) = false

-- the connection is not newer than the newest that was taken
abbrev pub is_old : End → Hello → Bool
is_old e h = nat_le h.attempt e.attempt

-- why a host refuses a terminal's hello, in this order
abbrev pub refusal_of : End → Hello → Option Refusal
refusal_of e h =
    if not (is_call h.what) then Some BadHello
    else if is_resume h.what && not e.is_known then Some NoSession
    else if not (same_id e.id h.id) then Some OtherSession
    else if is_old e h then Some OldAttempt
    else if not (may_have e.keeps h.received) then Some WrongCount
    else None

abbrev pub answered : End → Hello → End
answered e h = says (record e { attempt = h.attempt; phase = Open; is_known = true; keeps = begun e.keeps h.received }) Welcome

abbrev pub AnswersBy : Role → End → Hello → Result (Unit {0}) AnswerFault → End → Type 0
AnswersBy Host e h (Ok done) n = (refusal_of e h ≡ None) × (n ≡ answered e h)
AnswersBy Host e h (Err (answers.Refused why)) n = (refusal_of e h ≡ Some why) × (n ≡ e)
AnswersBy Host e h (Err answers.WrongRole) n = ⊥
AnswersBy Terminal e h (Err answers.WrongRole) n = n ≡ e
AnswersBy Terminal e h (Err (answers.Refused why)) n = ⊥
AnswersBy Terminal e h (Ok done) n = ⊥

abbrev pub Answers : End → Hello → Result (Unit {0}) AnswerFault → End → Type 0
Answers e h result n = AnswersBy e.role e h result n

abbrev pub is_asking : Phase → Bool
is_asking Down = false
is_asking Asking = true
is_asking Open = false

-- the first connection has been given bytes already, and the host has got none before
abbrev pub welcome_count : End → ℕ → Bool
welcome_count e count = if e.attempt == 1 then count == 0 else may_have e.keeps count

abbrev pub welcome_refusal : End → Hello → Option WelcomeFault
welcome_refusal e h =
    if not (same_id e.id h.id) then Some (welcomes.Here OtherSession)
    else if not (h.attempt == e.attempt) then Some (welcomes.Here OldAttempt)
    else if not (welcome_count e h.received) then Some (welcomes.Here WrongCount)
    else None

abbrev pub fault_by_word : End → Hello → What → Option WelcomeFault
fault_by_word e h (Refused why) = Some (welcomes.ByHost why)
fault_by_word e h Welcome = welcome_refusal e h
fault_by_word e h Begin = Some (welcomes.Here BadHello)
fault_by_word e h Resume = Some (welcomes.Here BadHello)
fault_by_word e h TakeOver = Some (welcomes.Here BadHello)

-- why a terminal does not take a host's hello, in this order
abbrev pub welcome_fault : End → Hello → Option WelcomeFault
welcome_fault e h = if is_asking e.phase then fault_by_word e h h.what else Some welcomes.NotOpen

abbrev pub welcomed : End → Hello → End
welcomed e h = record e { phase = Open; is_known = true; keeps = if e.attempt == 1 then e.keeps else begun e.keeps h.received }

abbrev pub WelcomesBy : Role → End → Hello → Result (Unit {0}) WelcomeFault → End → Type 0
WelcomesBy Terminal e h (Ok done) n = (welcome_fault e h ≡ None) × (n ≡ welcomed e h)
WelcomesBy Terminal e h (Err fault) n = (welcome_fault e h ≡ Some fault) × (n ≡ e)
WelcomesBy Host e h (Err welcomes.WrongRole) n = n ≡ e
WelcomesBy Host e h (Err welcomes.NotOpen) n = ⊥
WelcomesBy Host e h (Err (welcomes.ByHost why)) n = ⊥
WelcomesBy Host e h (Err (welcomes.Here why)) n = ⊥
WelcomesBy Host e h (Ok done) n = ⊥

abbrev pub Welcomes : End → Hello → Result (Unit {0}) WelcomeFault → End → Type 0
Welcomes e h result n = WelcomesBy e.role e h result n

-- ## Bytes go out

abbrev pub ended : End → End
ended e = record e { phase = Down; hello = [] }

-- an older connection's end changes nothing
abbrev pub broken : End → ℕ → End
broken e attempt = if attempt == e.attempt then ended e else e

abbrev pub is_up : Phase → Bool
is_up Down = false
is_up Asking = true
is_up Open = true

-- the first connection need not wait for the welcome: the host has got nothing before
abbrev pub may_send : Phase → ℕ → Bool
may_send Down attempt = false
may_send Asking attempt = attempt == 1
may_send Open attempt = true

-- how much of the hello goes out where there is room for so much, and how much of what is kept after it
abbrev pub from_hello : End → ℕ → ℕ
from_hello e room = min (length e.hello) room

abbrev pub from_kept : End → ℕ → ℕ
from_kept e room = if may_send e.phase e.attempt then min (length e.keeps.kept - e.keeps.sent) (room - from_hello e room) else 0

abbrev pub going : End → ℕ → List ℕ
going e room = take (from_hello e room) e.hello ++ take (from_kept e room) (drop e.keeps.sent e.keeps.kept)

abbrev pub gone : End → ℕ → End
gone e room = record e { hello = drop (from_hello e room) e.hello; keeps = record e.keeps { sent = e.keeps.sent + from_kept e room } }

abbrev pub TakesOut : End → ℕ → List ℕ → Result ℕ NotOpen → List ℕ → End → Type 0
TakesOut e attempt old (Ok count) new n =
    (is_up e.phase ≡ true) × (attempt ≡ e.attempt) × (count ≡ from_hello e (length old) + from_kept e (length old))
    × (new ≡ going e (length old) ++ drop count old) × (n ≡ gone e (length old))
TakesOut e attempt old (Err why) new n = ((is_up e.phase && (attempt == e.attempt)) ≡ false) × (new ≡ old) × (n ≡ e)
