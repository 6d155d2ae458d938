-- A call of a line with its answer, and what it puts and hands over.
use Rattle.std.specs.Prelude.{◌≡◌, ℕ, List, [], ◌∷◌, take, map, flat_map, Bool, Option, None, Some, Result, Ok, Err}
use Rattle.sam_link.specs.Calls.{Call, DoesAll, Item, handed, put}
use Rattle.sam_link.specs.Calls.Item.{Byte, Note}
use Rattle.sam_link.specs.declared.fault.CallFault.{CallFault}
use Rattle.sam_link.specs.declared.fault.NotOpen.{NotOpen}
use Rattle.sam_link.specs.declared.fault.NoteFault.{NoteFault}
use Rattle.sam_link.specs.declared.hello.Id.{Id}
use Rattle.sam_link.specs.declared.keeping.PutFault.{PutFault}
use Rattle.sam_line.specs.Line as lines
use Rattle.sam_line.specs.Receiving as receiving
use Rattle.sam_line.specs.declared.clock.Tick.{Tick}
use Rattle.sam_line.specs.declared.fault.ReceiveFault.{ReceiveFault}
use Rattle.sam_line.specs.declared.line.Line.{Line}

-- what was given, and what came of it; the last number of those that have a time is the time
pub data LineCall : Type 0 where
  TickAt : ℕ → Tick → LineCall
  Connected : ℕ → Result ℕ CallFault → LineCall
  NotConnected : ℕ → LineCall
  Broken : ℕ → ℕ → LineCall
  AddressChanged : ℕ → LineCall
  Expect : Bool → ℕ → LineCall
  Receive : ℕ → List ℕ → ℕ → Result (Unit {0}) ReceiveFault → LineCall
  Put : List ℕ → ℕ → Result (Unit {0}) PutFault → LineCall
  PutNote : List ℕ → ℕ → Result (Unit {0}) NoteFault → LineCall
  Ask : ℕ → Result (Unit {0}) PutFault → LineCall
  Acknowledge : Result (Unit {0}) PutFault → LineCall
  TakeOut : ℕ → List ℕ → Result ℕ NotOpen → List ℕ → LineCall
  TakeIn : List ℕ → ℕ → List ℕ → LineCall
  NextNote : List ℕ → Option ℕ → List ℕ → LineCall

-- the call leads from one line to the other: these are the clauses of the calls
abbrev pub LineDoes : Line → LineCall → Line → Type 0
LineDoes l (TickAt now answer) n = lines.Ticks l now answer n
LineDoes l (Connected now answer) n = lines.Connects l now answer n
LineDoes l (NotConnected now) n = n ≡ lines.not_connected (lines.at l now)
LineDoes l (Broken attempt now) n = n ≡ lines.broken (lines.at l now) attempt
LineDoes l (AddressChanged now) n = n ≡ lines.moved (lines.at l now)
LineDoes l (Expect expects now) n = n ≡ lines.expecting (lines.at l now) expects
LineDoes l (Receive attempt piece now answer) n = receiving.Receives l attempt piece now answer n
LineDoes l (Put bytes now answer) n = lines.PutsBytes l bytes now answer n
LineDoes l (PutNote bytes now answer) n = lines.PutsNote l bytes now answer n
LineDoes l (Ask now answer) n = lines.Asks l now answer n
LineDoes l (Acknowledge answer) n = lines.Acknowledges l answer n
LineDoes l (TakeOut attempt old answer new) n = lines.TakesOut l attempt old answer new n
LineDoes l (TakeIn old count new) n = lines.TakesIn l old count new n
LineDoes l (NextNote old count new) n = lines.GivesNote l old count new n

-- these calls, one after another
abbrev pub LineDoesAll : Line → List LineCall → Line → Type 0
LineDoesAll l [] n = n ≡ l
LineDoesAll l (call ∷ calls) n = (m : Line) × LineDoes l call m × LineDoesAll m calls n

-- what the call put for the host's program
abbrev pub put_by : LineCall → List Item
put_by (TickAt now answer) = []
put_by (Connected now answer) = []
put_by (NotConnected now) = []
put_by (Broken attempt now) = []
put_by (AddressChanged now) = []
put_by (Expect expects now) = []
put_by (Receive attempt piece now answer) = []
put_by (Put bytes now (Ok done)) = map Byte bytes
put_by (Put bytes now (Err why)) = []
put_by (PutNote bytes now (Ok done)) = Note bytes ∷ []
put_by (PutNote bytes now (Err why)) = []
put_by (Ask now answer) = []
put_by (Acknowledge answer) = []
put_by (TakeOut attempt old answer new) = []
put_by (TakeIn old count new) = []
put_by (NextNote old count new) = []

-- what the call handed to this program
abbrev pub handed_by : LineCall → List Item
handed_by (TickAt now answer) = []
handed_by (Connected now answer) = []
handed_by (NotConnected now) = []
handed_by (Broken attempt now) = []
handed_by (AddressChanged now) = []
handed_by (Expect expects now) = []
handed_by (Receive attempt piece now answer) = []
handed_by (Put bytes now answer) = []
handed_by (PutNote bytes now answer) = []
handed_by (Ask now answer) = []
handed_by (Acknowledge answer) = []
handed_by (TakeOut attempt old answer new) = []
handed_by (TakeIn old count new) = map Byte (take count new)
handed_by (NextNote old None new) = []
handed_by (NextNote old (Some count) new) = Note (take count new) ∷ []

-- the link has made calls of its own, which put and handed over the same, in the same order
pub record IsLinked (l : Line) (calls : List LineCall) (n : Line) : Type 0 where
  pub made : List Call
  pub does : DoesAll l.link made n.link
  pub puts : put made ≡ flat_map put_by calls
  pub hands : handed made ≡ flat_map handed_by calls

-- Whatever calls a line gets, its link is an end that gets calls: what the program puts goes into the link once and in order, each note at
-- its place, and what comes out of it goes to the program so
abbrev pub LinesAreLinks : Type 0
LinesAreLinks =
    (id : Id) (take_over : Bool) (now : ℕ) (calls : List LineCall) (n : Line) → LineDoesAll (lines.begun id take_over now) calls n
    → IsLinked (lines.begun id take_over now) calls n
