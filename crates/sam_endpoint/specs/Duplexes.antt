-- The two streams of an end: what came of the other side's, and what goes out on its own.
use Rattle.std.specs.Prelude.{◌≡◌, ℕ, ◌+◌, ◌^◌, ◌<◌, ◌≤◌, List, [], ◌++◌, length, Option, Some, None, Result, Ok, Err}
use Rattle.sam_frame.specs.Direction.{Direction}
use Rattle.sam_frame.specs.Framing.{Held, HasRoom, fresh}
use Rattle.sam_frame.specs.Stream.{stream_of}
use Rattle.sam_endpoint.specs.declared.fault.StreamFault.{StreamFault}
use Rattle.sam_endpoint.specs.declared.fault.EndpointFault.{EndpointFault}
use Rattle.sam_endpoint.specs.declared.fault.EndpointFault.TheVariants as fault
use Rattle.sam_endpoint.specs.declared.fault.FinishFault.{FinishFault}
use Rattle.sam_endpoint.specs.declared.fault.FinishFault.TheVariants as ending
use Rattle.sam_endpoint.specs.declared.step.BringFault.{BringFault}
use Rattle.sam_endpoint.specs.declared.step.BringFault.TheVariants as bring
use Rattle.sam_endpoint.specs.Streams.{Gives}

-- M is what comes in, N what goes out, S why the end stops
pub record PlainDuplex (M N S : Type 0) : Type 0 where
  pub framer : Held  -- what came of the other side's stream and is no whole message yet
  pub waiting : List M  -- messages that came and are not handled yet
  pub broken_by : Option StreamFault  -- what is wrong with the stream after them
  pub unwritten : List N  -- messages that were made and are not in the pending bytes yet
  pub pending_bytes : List ℕ  -- bytes for the other side that were not taken yet
  pub stop : Option S  -- why the end has stopped for good

abbrev pub new_duplex : {M N S : Type 0} → PlainDuplex M N S
new_duplex =
    record {
      framer = fresh;
      waiting = [];
      broken_by = None;
      unwritten = [];
      pending_bytes = [];
      stop = None;
    }

-- the framer takes the piece in: its messages wait, and then perhaps a fault of the stream; or all stays
abbrev pub TakesPiece : {M N S : Type 0} → Direction M → PlainDuplex M N S → List ℕ
    → Result (Unit {0}) (EndpointFault S) → PlainDuplex M N S → Type 0
TakesPiece {M} d e piece (Ok done) g =
    (messages : List M) × (broken_by : Option StreamFault) × (rest : Held)
    × Gives d e.framer piece messages broken_by rest
    × (g ≡ record e { framer = rest; waiting = messages; broken_by = broken_by })
TakesPiece d e piece (Err fault.OutOfMemory) g = HasRoom e.framer piece × (g ≡ e)
TakesPiece d e piece (Err fault.CountFull) g = (2 ^ 64 ≤ e.framer.offset + length e.framer.bytes + length piece) × (g ≡ e)
TakesPiece d e piece (Err fault.Unfinished) g = ⊥
TakesPiece d e piece (Err (fault.Stopped why)) g = ⊥

-- what was left over, and then these messages, are in the pending bytes
abbrev pub all_written : {M N S : Type 0} → Direction N → PlainDuplex M N S → List N → PlainDuplex M N S
all_written d e messages = record e { unwritten = []; pending_bytes = e.pending_bytes ++ stream_of d (e.unwritten ++ messages) }

-- what was left over is in the pending bytes, or all stays
abbrev pub WritesAll : {M N S : Type 0} → Direction N → PlainDuplex M N S
    → Result (Unit {0}) (EndpointFault S) → PlainDuplex M N S → Type 0
WritesAll d e (Ok done) g = g ≡ record e { unwritten = []; pending_bytes = e.pending_bytes ++ stream_of d e.unwritten }
WritesAll d e (Err fault.Unfinished) g = (0 < length e.unwritten) × (g ≡ e)
WritesAll d e (Err fault.OutOfMemory) g = ⊥
WritesAll d e (Err fault.CountFull) g = ⊥
WritesAll d e (Err (fault.Stopped why)) g = ⊥

-- it has stopped, if that is what the fault says
abbrev pub stopped_by : {M N S : Type 0} → PlainDuplex M N S → EndpointFault S → PlainDuplex M N S
stopped_by e (fault.Stopped why) = record e { stop = Some why }
stopped_by e fault.OutOfMemory = e
stopped_by e fault.Unfinished = e
stopped_by e fault.CountFull = e

-- nothing is left to handle or to write
abbrev pub IsIdle : {M N S : Type 0} → PlainDuplex M N S → Type 0
IsIdle e = (e.waiting ≡ []) × (e.unwritten ≡ [])

-- nothing is, and no fault stands after what came
abbrev pub IsDone : {M N S : Type 0} → PlainDuplex M N S → Type 0
IsDone e = IsIdle e × (e.broken_by ≡ None)

-- whether the stream may end here: it may where all of it was handled, and it ends between two messages
abbrev pub Finishes : {M N S : Type 0} → PlainDuplex M N S → Result (Unit {0}) (FinishFault S) → Type 0
Finishes e (Err (ending.Stopped why)) = e.stop ≡ Some why
Finishes e (Err ending.Unfinished) = (e.stop ≡ None) × (IsDone e → ⊥)
Finishes e (Err ending.Truncated) = (e.stop ≡ None) × IsDone e × (0 < length e.framer.bytes)
Finishes e (Ok done) = (e.stop ≡ None) × IsDone e × (e.framer.bytes ≡ [])

-- whether a piece can be brought: nothing of before waits, and it has not stopped
abbrev pub MayBring : {M N S : Type 0} → PlainDuplex M N S → Result (Unit {0}) (BringFault S) → Type 0
MayBring e (Ok done) = (e.stop ≡ None) × IsDone e
MayBring e (Err (bring.Stopped why)) = e.stop ≡ Some why
MayBring e (Err bring.Waiting) = (e.stop ≡ None) × (IsDone e → ⊥)
MayBring e (Err bring.CountFull) = ⊥
MayBring e (Err bring.OutOfMemory) = ⊥
