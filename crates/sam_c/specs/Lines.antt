-- What the calls of a line do. Times are in milliseconds.
use Rattle.std.specs.Prelude.{◌≡◌, ◌⊎◌, ℕ, List, length, Bool, true, false, nat_lt, Option, Some, None, Result}
use Rattle.sam_link.specs.Sessions.{IsId}
use Rattle.sam_link.specs.declared.fault.CallFault.{CallFault}
use Rattle.sam_link.specs.declared.fault.NotOpen.{NotOpen}
use Rattle.sam_link.specs.declared.fault.NoteFault.{NoteFault}
use Rattle.sam_link.specs.declared.hello.Id.{Id}
use Rattle.sam_link.specs.declared.keeping.PutFault.{PutFault}
use Rattle.sam_line.specs.Calls.{LineCall, LineDoes}
use Rattle.sam_line.specs.Calls as call
use Rattle.sam_line.specs.Line.{begun}
use Rattle.sam_line.specs.declared.clock.Tick.{Tick}
use Rattle.sam_line.specs.declared.fault.ReceiveFault.{ReceiveFault}
use Rattle.sam_line.specs.declared.line.Line.{Line}
use Rattle.sam_handles.specs.Calls.{AtHandle, TellsOne, handed_or}
use Rattle.sam_handles.specs.LineDetails.{CopiesWords}
use Rattle.sam_handles.specs.LineStatus.{receive_status, tick_number}
use Rattle.sam_handles.specs.LinkIds.{id_bytes}
use Rattle.sam_handles.specs.LinkStatus.{call_status, no_room, note_status, out_status, put_status}
use Rattle.sam_handles.specs.Status.{ok, no_memory, is_made, no_handle}

-- a new line with this id, or why there is none and the handle is as before
abbrev pub MakesLine : List ℕ → Bool → ℕ → ℕ → Option Line → Type 0
MakesLine bytes take_over now status after =
    ((id : Id) × IsId id × (id_bytes id ≡ bytes) × (status ≡ ok) × (after ≡ Some (begun id take_over now)))
    ⊎ ((status ≡ no_memory) × (after ≡ None))

abbrev pub LineMade : Option Line → List ℕ → Bool → ℕ → ℕ → Option Line → Type 0
LineMade None bytes take_over now status after = MakesLine bytes take_over now status after
LineMade (Some l) bytes take_over now status after = (status ≡ is_made) × (after ≡ Some l)

-- ## Connections

abbrev pub LineTicked : Option Line → ℕ → ℕ → ℕ → ℕ → Option Line → Type 0
LineTicked None now old status new after = (status ≡ no_handle) × (new ≡ old) × (after ≡ None)
LineTicked (Some l) now old status new after =
    (n : Line) × (tick : Tick) × (after ≡ Some n) × LineDoes l (call.TickAt now tick) n × (status ≡ ok) × (new ≡ tick_number tick)

abbrev pub LineConnected : Option Line → ℕ → ℕ → ℕ → ℕ → Option Line → Type 0
LineConnected None now old status new after = (status ≡ no_handle) × (new ≡ old) × (after ≡ None)
LineConnected (Some l) now old status new after =
    (n : Line) × (result : Result ℕ CallFault) × (after ≡ Some n) × LineDoes l (call.Connected now result) n
    × (status ≡ call_status result) × (new ≡ handed_or old result)

-- a call that can't be refused
abbrev pub LineDone : Option Line → LineCall → ℕ → Option Line → Type 0
LineDone before made status after = AtHandle before status after (λ l status n. (status ≡ ok) × LineDoes l made n)

-- ## What is put

-- a call that puts, all or nothing: bytes, or a question, or how many have come
abbrev pub LinePut : Option Line → (Result (Unit {0}) PutFault → LineCall) → ℕ → Option Line → Type 0
LinePut before made status after =
    AtHandle before status after
    (λ l status n. (result : Result (Unit {0}) PutFault) × LineDoes l (made result) n × (status ≡ put_status result))

abbrev pub LineNotePut : Option Line → List ℕ → ℕ → ℕ → Option Line → Type 0
LineNotePut before bytes now status after =
    AtHandle before status after
    (λ l status n. (result : Result (Unit {0}) NoteFault) × LineDoes l (call.PutNote bytes now result) n × (status ≡ note_status result))

-- ## Bytes out and in

abbrev pub LineTakenOut : Option Line → ℕ → List ℕ → List ℕ → ℕ → ℕ → ℕ → Option Line → Type 0
LineTakenOut None attempt before after old status new g = (status ≡ no_handle) × (after ≡ before) × (new ≡ old) × (g ≡ None)
LineTakenOut (Some l) attempt before after old status new g =
    (n : Line) × (result : Result ℕ NotOpen) × (g ≡ Some n) × LineDoes l (call.TakeOut attempt before result after) n
    × (status ≡ out_status result) × (new ≡ handed_or old result)

abbrev pub LineReceived : Option Line → ℕ → List ℕ → ℕ → ℕ → Option Line → Type 0
LineReceived before attempt piece now status after =
    AtHandle before status after
    (λ l status n. (result : Result (Unit {0}) ReceiveFault) × LineDoes l (call.Receive attempt piece now result) n
    × (status ≡ receive_status result))

abbrev pub LineTakenIn : Option Line → List ℕ → List ℕ → ℕ → ℕ → ℕ → Option Line → Type 0
LineTakenIn None before after old status new g = (status ≡ no_handle) × (after ≡ before) × (new ≡ old) × (g ≡ None)
LineTakenIn (Some l) before after old status new g = (n : Line) × (g ≡ Some n) × (status ≡ ok) × LineDoes l (call.TakeIn before new after) n

-- a note is moved only where there is room for the longest
abbrev pub LineNote : Line → Bool → List ℕ → List ℕ → ℕ → ℕ → ℕ → Line → Type 0
LineNote l true before after old status new n = (status ≡ no_room) × (after ≡ before) × (new ≡ old) × (n ≡ l)
LineNote l false before after old status new n =
    (count : Option ℕ) × LineDoes l (call.NextNote before count after) n × TellsOne count status old new

abbrev pub LineNextNote : Option Line → List ℕ → List ℕ → ℕ → ℕ → ℕ → Option Line → Type 0
LineNextNote None before after old status new g = (status ≡ no_handle) × (after ≡ before) × (new ≡ old) × (g ≡ None)
LineNextNote (Some l) before after old status new g =
    (n : Line) × (g ≡ Some n) × LineNote l (nat_lt (length before) 4096) before after old status new n

-- ## Readers

abbrev pub LineWords : Option Line → List ℕ → List ℕ → ℕ → ℕ → ℕ → Type 0
LineWords None before after old status new = (status ≡ no_handle) × (after ≡ before) × (new ≡ old)
LineWords (Some l) before after old status new = CopiesWords l before after status new
