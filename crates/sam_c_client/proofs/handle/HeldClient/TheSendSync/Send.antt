-- A handle may go to another thread, since an end may, and since any thread may free a block of C's heap.
use mir.Raw.{raw}
use base.Shift.{Keyless}
use denote.Memory.{lone}
use denote.RawPtr.{Ptr}
use denote.Param.Send.{AllSend, IsSend, owning_send, sendable, struct_send}
use denote.Struct.Owning.{fields, shape, to}
use denote.Struct.Struct.{exits_of}
use Rattle.std.proofs.Common.{None, Option, Some}
use Rattle.std.specs.Global.{Global}
use Rattle.std.proofs.Crossing as heap
use Rattle.std_alloc.proofs.SendSync.{lies, quiet}
use Rattle.std_heap.proofs.Global.TheSendSync as handle
use Rattle.sam_c_client.specs.contracts.client_end.ClientEnd.{the_row as ClientEnd}
use Rattle.sam_c_client.proofs.client_end.ClientEnd.TheSendSync.{the_send as client_end}
use Rattle.sam_c_client.specs.Handles.{holds_client}
use Rattle.sam_c_client.specs.contracts.handle.HeldClient.{the_row, the_type}

lent : (alloc : Global) (at : Ptr) (held : Option ClientEnd.Denot) → Keyless (holds_client alloc at held)
lent alloc at None = tt
lent alloc at (Some end) = (lies ClientEnd client_end at end, heap.frees.frees alloc (raw (lone ClientEnd.mir)) at)

pub send : IsSend the_row
send =
    let all : AllSend (fields the_type) = (search sendable, (handle.the_field_send, tt)) in
    owning_send the_type all (λ d. lent d.alloc d.at d.end)
    (λ k. quiet (to the_type) (exits_of k (fields the_type)) ((struct_send (shape the_type) all).leaving k))
