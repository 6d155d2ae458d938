-- A server and a recovery as what a box in C's heap holds, and their handles beside the parts of such a box.
use Rattle.std_heap.specs.contracts.Global as Heap
use Rattle.std_heap.specs.contracts.GlobalAllocator.TheImpl.{ghosts}
use Rattle.sam_server.specs.contracts.recovery.Recovery.{the_row as Recovery}
use Rattle.sam_server.proofs.recovery.Recovery.TheLaws.{the_row_laws as recovery}
use Rattle.sam_server.specs.contracts.server.DurableServer.{the_row as DurableServer}
use Rattle.sam_server.proofs.server.DurableServer.TheLaws.{the_row_laws as durable_server}
use Rattle.sam_handles.proofs.Ends.{boxed}
use Rattle.sam_handles.proofs.Walks.{Bx, Slot, plain}
use Rattle.sam_handles.specs.contracts.parts.Parts as Parts
use Rattle.sam_c.specs.contracts.server_handle.HeldRecovery as HeldRecovery
use Rattle.sam_c.specs.contracts.server_handle.HeldServer as HeldServer

abbrev pub ServerBox : Bx
ServerBox = boxed DurableServer durable_server

abbrev pub ServerParts : Slot 0
ServerParts = plain (λ _. Parts.the_row DurableServer Heap.the_row ghosts)

abbrev pub HeldServers : Slot 0
HeldServers = plain (λ _. HeldServer.the_row)

abbrev pub RecoveryBox : Bx
RecoveryBox = boxed Recovery recovery

abbrev pub RecoveryParts : Slot 0
RecoveryParts = plain (λ _. Parts.the_row Recovery Heap.the_row ghosts)

abbrev pub HeldRecoveries : Slot 0
HeldRecoveries = plain (λ _. HeldRecovery.the_row)
