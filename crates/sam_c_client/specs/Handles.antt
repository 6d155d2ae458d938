-- What the handle of a client owns.
use Rattle.std.specs.Prelude.{ℕ, Option}
use base.Fml.{Fml}
use denote.RawPtr.{Ptr}
use Rattle.std.specs.Coded.{Coded, coded_option}
use Rattle.std.specs.Global.{Global}
use Rattle.std_heap.specs.contracts.GlobalAllocator.TheImpl.{ghosts}
use Rattle.sam_handles.specs.Handles.{holds}
use Rattle.sam_c_client.specs.contracts.client_end.ClientEnd.{the_row as ClientEnd}

abbrev pub holds_client : Global → Ptr → Option ClientEnd.Denot → Fml
holds_client alloc = holds (ghosts.dealloc_token alloc) ClientEnd

abbrev pub held_client_coded : Coded (Option ClientEnd.Denot)
held_client_coded = coded_option ClientEnd.coded

-- "sam clie", the first letter in the highest byte
abbrev pub client_mark : ℕ
client_mark = 8314046372977076581
