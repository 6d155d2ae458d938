-- What the handles of a server and of a recovery own.
use Rattle.std.specs.Prelude.{ℕ, Option}
use base.Fml.{Fml}
use denote.RawPtr.{Ptr}
use Rattle.std.specs.Coded.{Coded, coded_option}
use Rattle.std.specs.Global.{Global}
use Rattle.std_heap.specs.contracts.GlobalAllocator.TheImpl.{ghosts}
use Rattle.sam_server.specs.contracts.recovery.Recovery.{the_row as Recovery}
use Rattle.sam_server.specs.contracts.server.DurableServer.{the_row as DurableServer}
use Rattle.sam_handles.specs.Handles.{holds}

abbrev pub holds_server : Global → Ptr → Option DurableServer.Denot → Fml
holds_server alloc = holds (ghosts.dealloc_token alloc) DurableServer

abbrev pub holds_recovery : Global → Ptr → Option Recovery.Denot → Fml
holds_recovery alloc = holds (ghosts.dealloc_token alloc) Recovery

abbrev pub held_server_coded : Coded (Option DurableServer.Denot)
held_server_coded = coded_option DurableServer.coded

abbrev pub held_recovery_coded : Coded (Option Recovery.Denot)
held_recovery_coded = coded_option Recovery.coded

-- "sam serv" and "sam reco", the first letter in the highest byte
abbrev pub server_mark : ℕ
server_mark = 8314046373245055606

abbrev pub recovery_mark : ℕ
recovery_mark = 8314046373228274543
