-- A client as what a box in C's heap holds, and its handle beside the parts of such a box.
use Rattle.std_heap.specs.contracts.Global as Heap
use Rattle.std_heap.specs.contracts.GlobalAllocator.TheImpl.{ghosts}
use Rattle.sam_handles.proofs.Ends.{boxed}
use Rattle.sam_handles.proofs.Walks.{Bx, Slot, plain}
use Rattle.sam_handles.specs.contracts.parts.Parts as Parts
use Rattle.sam_c_client.proofs.client_end.ClientEnd.TheLaws.{the_row_laws as client_end}
use Rattle.sam_c_client.specs.contracts.client_end.ClientEnd.{the_row as ClientEnd}
use Rattle.sam_c_client.specs.contracts.handle.HeldClient as HeldClient

abbrev pub ClientBox : Bx
ClientBox = boxed ClientEnd client_end

abbrev pub ClientParts : Slot 0
ClientParts = plain (λ _. Parts.the_row ClientEnd Heap.the_row ghosts)

abbrev pub HeldClients : Slot 0
HeldClients = plain (λ _. HeldClient.the_row)
