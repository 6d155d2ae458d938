-- What is true of the clock of each line, in any calls. Times are in milliseconds.
use Rattle.std.specs.Prelude.{◌≡◌, ◌≢◌, ℕ, ◌+◌, ◌-◌, ◌≤◌, ◌<◌, List, [], ◌∷◌, length, max, replicate, if◌then◌else◌, Any, Bool, true, false, None, Some, Ok, Err, Result}
use Rattle.sam_link.specs.declared.hello.Id.{Id}
use Rattle.sam_link.specs.declared.hello.Refusal.TheVariants.{NoSession}
use Rattle.sam_line.specs.Calls.{LineCall, LineDoes, LineDoesAll}
use Rattle.sam_line.specs.Calls.LineCall.{Receive}
use Rattle.sam_line.specs.Clock.{after, at, due_in, failed, failures_before, pause, refused, says}
use Rattle.sam_line.specs.Line.{begun}
use Rattle.sam_line.specs.declared.clock.Clock.{Clock}
use Rattle.sam_line.specs.declared.clock.Deadline.{Deadline}
use Rattle.sam_line.specs.declared.clock.State.{State}
use Rattle.sam_line.specs.declared.clock.State.TheVariants.{Down, Connecting, Open, Late, Lost}
use Rattle.sam_line.specs.declared.clock.Tick.{Tick}
use Rattle.sam_line.specs.declared.clock.Tick.TheVariants.{Nothing, Connect, Drop}
use Rattle.sam_line.specs.declared.clock.Tick.TheVariants as ticks
use Rattle.sam_line.specs.declared.fault.ReceiveFault.{ReceiveFault}
use Rattle.sam_line.specs.declared.fault.ReceiveFault.TheVariants.{OutOfMemory}
use Rattle.sam_line.specs.declared.line.Line.{Line}

-- ## What each line keeps

-- it has begun, and takes 30 seconds at most
pub record IsNear (d : Deadline) (now : ℕ) : Type 0 where
  pub begun : d.since ≤ now
  pub soon : d.within ≤ 30000

abbrev pub IsNearIn : State → ℕ → Type 0
IsNearIn (Down d) now = IsNear d now
IsNearIn (Connecting d) now = IsNear d now
IsNearIn Open now = Unit {0}
IsNearIn (Late d) now = IsNear d now
IsNearIn (Lost why) now = Unit {0}

pub record IsTimely (c : Clock) : Type 0 where
  pub near : IsNearIn c.state c.time
  pub quiet : c.quiet ≤ c.time

abbrev pub LinesAreTimely : Type 0
LinesAreTimely =
    (id : Id) (take_over : Bool) (now : ℕ) (calls : List LineCall) (n : Line) → LineDoesAll (begun id take_over now) calls n
    → IsTimely n.clock

-- ## `due_in` is exact

-- as long as no other call comes, there is nothing to say before that time, and something from then on
pub record IsExact (c : Clock) (due : Bool) (now : ℕ) : Type 0 where
  pub never : due_in c due now ≡ None → (time : ℕ) → says (at c time) due ≡ Nothing
  pub before : (left time : ℕ) → due_in c due now ≡ Some left → max c.time now ≤ time → time < max c.time now + left
      → says (at c time) due ≡ Nothing
  pub from : (left time : ℕ) → due_in c due now ≡ Some left → max c.time now + left ≤ time → says (at c time) due ≢ Nothing

abbrev pub DueInIsExact : Type 0
DueInIsExact = (c : Clock) (due : Bool) (now : ℕ) → IsTimely c → IsExact c due now

-- ## No line is stuck

abbrev pub IsLost : State → Type 0
IsLost (Down d) = ⊥
IsLost (Connecting d) = ⊥
IsLost Open = ⊥
IsLost (Late d) = ⊥
IsLost (Lost why) = Unit {0}

-- what is said at these times, if no other call comes
abbrev pub said : Clock → Bool → List ℕ → List Tick
said c due [] = []
said c due (time ∷ times) = says (at c time) due ∷ said (after (at c time) due (says (at c time) due)) due times

-- Where an answer is due, three ticks that are 30 seconds apart say "drop" and "connect", unless the host has refused for good
abbrev pub NeverStuck : Type 0
NeverStuck =
    (c : Clock) (first second third : ℕ) → IsTimely c → (IsLost c.state → ⊥)
    → c.time + 30000 ≤ first → first + 30000 ≤ second → second + 30000 ≤ third
    → Any (λ tick. tick ≡ Drop) (said c true (first ∷ second ∷ third ∷ []))
    × Any (λ tick. tick ≡ Connect) (said c true (first ∷ second ∷ third ∷ []))

-- ## A jump of the clock

abbrev pub is_drop : Tick → Bool
is_drop Nothing = false
is_drop Connect = false
is_drop Drop = true
is_drop ticks.Ask = false

abbrev pub is_connect : Tick → Bool
is_connect Nothing = false
is_connect Connect = true
is_connect Drop = false
is_connect ticks.Ask = false

-- how many of these pass
abbrev pub count : (Tick → Bool) → List Tick → ℕ
count test [] = 0
count test (tick ∷ said) = (if test tick then 1 else 0) + count test said

-- however far the clock jumps, and however many ticks come then, there is one "drop" at most, and one "connect"
pub record SaysOnce (said : List Tick) : Type 0 where
  pub drops : count is_drop said ≤ 1
  pub connects : count is_connect said ≤ 1

abbrev pub JumpsSayOnce : Type 0
JumpsSayOnce = (c : Clock) (due : Bool) (time many : ℕ) → SaysOnce (said c due (replicate many time))

-- ## Pauses

-- the next pause is no shorter than the last, unless a connection stood for a second between; and none is longer than 30 seconds
pub record PausesGrow (c : Clock) (due : Bool) : Type 0 where
  pub grow : pause (failures_before c) ≤ pause (failed c due).failures
  pub bounded : pause (failures_before c) ≤ 30000

abbrev pub AllPausesGrow : Type 0
AllPausesGrow = (c : Clock) (due : Bool) → PausesGrow c due

-- ## A session that is not found

-- a line whose session was there is lost only once it was missing for a minute
abbrev pub MissingForAMinute : Type 0
MissingForAMinute =
    (c : Clock) (due : Bool) → (refused c true due NoSession).state ≡ Lost NoSession
    → (since : ℕ) × (c.missing ≡ Some since) × (60000 ≤ c.time - since)

-- ## Room

-- words of a login, and the first bytes of a hello, take a bounded room where a piece is taken and no hello has come
abbrev pub WordsAreFew : Type 0
WordsAreFew =
    (l n : Line) (attempt now : ℕ) (piece : List ℕ) → LineDoes l (Receive attempt piece now (Ok tt)) n
    → (d : Deadline) → n.clock.state ≡ Connecting d → length n.greeting < 65536 + 42

-- ## A piece that is given again

-- where memory was refused, the same bytes do later what they would have done at once
abbrev pub PiecesComeAgain : Type 0
PiecesComeAgain =
    (l n m : Line) (attempt now again : ℕ) (piece : List ℕ) (answer : Result (Unit {0}) ReceiveFault) → now ≤ again
    → LineDoes l (Receive attempt piece now (Err OutOfMemory)) n → LineDoes n (Receive attempt piece again answer) m
    → LineDoes l (Receive attempt piece again answer) m
