-- A handle may go to another thread, since an end may, and since any thread may free a block of C's heap.
use mir.Raw.{raw}
use base.Shift.{Keyless}
use denote.Memory.{lone}
use denote.RawPtr.{Ptr}
use denote.Param.Send.{AllSend, IsSend, owning_send, sendable, struct_send}
use denote.Struct.Owning.{fields, shape, to}
use denote.Struct.Struct.{exits_of}
use Rattle.std.proofs.Common.{None, Option, Some}
use Rattle.std.specs.Global.{Global}
use Rattle.std.proofs.Crossing as heap
use Rattle.std_alloc.proofs.SendSync.{lies, quiet}
use Rattle.std_heap.proofs.Global.TheSendSync as handle
use Rattle.sam_shown.specs.contracts.shown_end.ShownEnd.{the_row as ShownEnd}
use Rattle.sam_shown.proofs.shown_end.ShownEnd.TheSendSync.{the_send as shown_end}
use Rattle.sam_handles.specs.Handles.{holds_overlay}
use Rattle.sam_handles.specs.contracts.handle.HeldOverlay.{the_row, the_type}

lent : (alloc : Global) (at : Ptr) (held : Option ShownEnd.Denot) → Keyless (holds_overlay alloc at held)
lent alloc at None = tt
lent alloc at (Some end) = (lies ShownEnd shown_end at end, heap.frees.frees alloc (raw (lone ShownEnd.mir)) at)

pub send : IsSend the_row
send =
    let all : AllSend (fields the_type) = (search sendable, (handle.the_field_send, tt)) in
    owning_send the_type all (λ d. lent d.alloc d.at d.end)
    (λ k. quiet (to the_type) (exits_of k (fields the_type)) ((struct_send (shape the_type) all).leaving k))
