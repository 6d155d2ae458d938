-- A handle may go to another thread, since an end may, and since any thread may free a block of C's heap.
use mir.Raw.{raw}
use base.Shift.{Keyless}
use denote.Memory.{lone}
use denote.RawPtr.{Ptr}
use denote.Param.Send.{AllSend, IsSend, owning_send, sendable, struct_send}
use denote.Struct.Owning.{fields, shape, to}
use denote.Struct.Struct.{exits_of}
use Rattle.std.proofs.Common.{None, Option, Some}
use Rattle.std.specs.Global.{Global}
use Rattle.std.proofs.Crossing as heap
use Rattle.std_alloc.proofs.SendSync.{lies, quiet}
use Rattle.std_heap.proofs.Global.TheSendSync as handle
use Rattle.sam_endpoint.specs.contracts.term_endpoint.TermEndpoint.{the_row as TermEndpoint}
use Rattle.sam_endpoint.proofs.term_endpoint.TermEndpoint.TheSendSync.{the_send as term_endpoint}
use Rattle.sam_handles.specs.Handles.{holds_term}
use Rattle.sam_handles.specs.contracts.handle.HeldTerm.{the_row, the_type}

lent : (alloc : Global) (at : Ptr) (held : Option TermEndpoint.Denot) → Keyless (holds_term alloc at held)
lent alloc at None = tt
lent alloc at (Some end) = (lies TermEndpoint term_endpoint at end, heap.frees.frees alloc (raw (lone TermEndpoint.mir)) at)

pub send : IsSend the_row
send =
    let all : AllSend (fields the_type) = (search sendable, (handle.the_field_send, tt)) in
    owning_send the_type all (λ d. lent d.alloc d.at d.end)
    (λ k. quiet (to the_type) (exits_of k (fields the_type)) ((struct_send (shape the_type) all).leaving k))
