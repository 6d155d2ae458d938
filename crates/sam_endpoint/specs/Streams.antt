-- What both ends share: what can be written, a stream that shows a fault, and what a call's answer says.
use Rattle.std.specs.Prelude.{◌≡◌, ℕ, ◌+◌, ◌^◌, ◌≤◌, List, [], length, Option, Some, None, Result, Ok, Err, All}
use Rattle.std.specs.Global.{Vec}
use Rattle.sam_mesg.specs.HostKinds.{FitsH}
use Rattle.sam_mesg.specs.TerminalKinds.{FitsT}
use Rattle.sam_mesg.specs.declared.hmesg.HFrame.{HFrame}
use Rattle.sam_mesg.specs.declared.tmesg.Tmesg.{Tmesg}
use Rattle.sam_mesg.specs.declared.fault.MesgFault.{MesgFault}
use Rattle.sam_mesg.specs.declared.fault.MesgFault.TheVariants as wrong
use Rattle.sam_frame.specs.Direction.{Direction}
use Rattle.sam_frame.specs.Framing.{Held, HasRoom, GaveAll, GaveUp}
use Rattle.sam_endpoint.specs.declared.fault.EndpointFault.{EndpointFault}
use Rattle.sam_endpoint.specs.declared.fault.EndpointFault.TheVariants as fault
use Rattle.sam_endpoint.specs.declared.fault.StreamFault.{StreamFault}
use Rattle.sam_endpoint.specs.declared.step.BringFault.{BringFault}
use Rattle.sam_endpoint.specs.declared.step.BringFault.TheVariants as bring
use Rattle.sam_endpoint.specs.declared.fault.StreamFault.TheVariants.{BadKind, BadLength, BadText}

-- each frame is a value of its type that is within the limits of version 2
abbrev pub FitFrames : List HFrame → Type 0
FitFrames frames = All (FitsH 2) frames

-- each message is a value of its type that is within the limits of version 2
abbrev pub FitMessages : List Tmesg → Type 0
FitMessages messages = All (FitsT 2) messages

abbrev pub mesg_fault : StreamFault → MesgFault
mesg_fault BadKind = wrong.BadKind
mesg_fault BadLength = wrong.BadLength
mesg_fault BadText = wrong.BadText

-- the framer gave these messages for the piece, and after them no fault or this one
abbrev pub Gives : {M : Type 0} → Direction M → Held → List ℕ → List M → Option StreamFault → Held → Type 0
Gives d h piece messages None k = GaveAll d h piece messages k
Gives d h piece messages (Some fault) k = (place : ℕ) × GaveUp d h piece messages place (mesg_fault fault) k

-- what the framer gave for the piece; or it took none of it and is as before
abbrev pub GivesAs : {M S : Type 0} → Direction M → Held → List ℕ → Result (Vec M × Option StreamFault) (EndpointFault S) → Held → Type 0
GivesAs d h piece (Ok (messages, broken_by)) k = Gives d h piece messages.items broken_by k
GivesAs d h piece (Err fault.OutOfMemory) k = HasRoom h piece × (k ≡ h)
GivesAs d h piece (Err fault.CountFull) k = (2 ^ 64 ≤ h.offset + length h.bytes + length piece) × (k ≡ h)
GivesAs d h piece (Err fault.Unfinished) k = ⊥
GivesAs d h piece (Err (fault.Stopped why)) k = ⊥

-- the end goes on after this answer
abbrev pub GoesOnAfter : {A S : Type 0} → Result A (EndpointFault S) → Type 0
GoesOnAfter (Ok done) = Unit {0}
GoesOnAfter (Err fault.OutOfMemory) = Unit {0}
GoesOnAfter (Err fault.Unfinished) = Unit {0}
GoesOnAfter (Err fault.CountFull) = Unit {0}
GoesOnAfter (Err (fault.Stopped why)) = ⊥

-- what the call brought, if it was taken
abbrev pub if_taken : {A S : Type 0} → Result (Unit {0}) (EndpointFault S) → List A → List A
if_taken (Ok done) brought = brought
if_taken (Err fault.OutOfMemory) brought = []
if_taken (Err fault.Unfinished) brought = brought
if_taken (Err fault.CountFull) brought = []
if_taken (Err (fault.Stopped why)) brought = brought

-- what was to be brought, if it was
abbrev pub if_brought : {A S : Type 0} → Result (Unit {0}) (BringFault S) → List A → List A
if_brought (Ok done) brought = brought
if_brought (Err why) brought = []

-- out of memory before what the call brought was taken
abbrev pub not_taken : {S : Type 0} → EndpointFault S → EndpointFault S
not_taken fault.Unfinished = fault.OutOfMemory
not_taken fault.OutOfMemory = fault.OutOfMemory
not_taken fault.CountFull = fault.CountFull
not_taken (fault.Stopped why) = fault.Stopped why

-- why a piece is not brought that a framer did not take
abbrev pub bring_fault : {S : Type 0} → EndpointFault S → BringFault S
bring_fault fault.CountFull = bring.CountFull
bring_fault fault.OutOfMemory = bring.OutOfMemory
bring_fault fault.Unfinished = bring.OutOfMemory
bring_fault (fault.Stopped why) = bring.Stopped why
