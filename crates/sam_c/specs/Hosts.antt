-- What the calls of a host do.
use Rattle.std.specs.Prelude.{◌≡◌, ◌⊎◌, ℕ, List, [], ◌∷◌, take, Option, option_map, Some, None, Result, Ok, Err}
use Rattle.sam_runes.specs.Slots.{slot}
use Rattle.sam_text.specs.Files.{PlainFile, file_at}
use Rattle.sam_endpoint.specs.declared.fault.EndpointFault.{EndpointFault}
use Rattle.sam_endpoint.specs.declared.fault.FinishFault.{FinishFault}
use Rattle.sam_endpoint.specs.declared.fault.HostStop.{HostStop}
use Rattle.sam_endpoint.specs.declared.fault.AddFault.{AddFault}
use Rattle.sam_host.specs.declared.fault.MarkFault.{MarkFault}
use Rattle.sam_endpoint.specs.HostEndpoints.{PlainHostEndpoint, new_host_endpoint, Finishes}
use Rattle.sam_endpoint.specs.HostRuns.{Call, Runs, Stops}
use Rattle.sam_endpoint.specs.HostRuns as call
use Rattle.sam_handles.specs.Buffers.{Takes}
use Rattle.sam_handles.specs.Calls.{AtHandle, TellsOne}
use Rattle.sam_handles.specs.Status.{ok, no_memory, is_made, no_handle, add_status, mark_status, host_status, host_finish_status}

-- a new host, or why there is none and the handle is as before
abbrev pub HostMade : Option PlainHostEndpoint → ℕ → Option PlainHostEndpoint → Type 0
HostMade None status after = ((status ≡ ok) × (after ≡ Some new_host_endpoint)) ⊎ ((status ≡ no_memory) × (after ≡ None))
HostMade (Some e) status after = (status ≡ is_made) × (after ≡ Some e)

-- a call with what came of it, as the laws of calls know it, leads from one end to the other; perhaps it stops the end
unfoldable pub HostDoes : PlainHostEndpoint → Call → PlainHostEndpoint → Type 0
HostDoes e made g = Runs e (made ∷ []) g ⊎ ((why : HostStop) × Stops e made why g)

abbrev pub HostFed : Option PlainHostEndpoint → List ℕ → ℕ → Option PlainHostEndpoint → Type 0
HostFed before piece status after =
    AtHandle before status after
    (λ e status g. (result : Result (Unit {0}) (EndpointFault HostStop)) × HostDoes e (call.Feed piece result) g
    × (status ≡ host_status result))

-- whether the terminal's stream may end here
abbrev pub HostFinished : Option PlainHostEndpoint → ℕ → Type 0
HostFinished None status = status ≡ no_handle
HostFinished (Some e) status =
    (result : Result (Unit {0}) (FinishFault HostStop)) × Finishes e result × (status ≡ host_finish_status result)

-- a tag that was handed out, or what stood there before
abbrev pub tag_or : ℕ → Result ℕ AddFault → ℕ
tag_or before (Ok tag) = tag
tag_or before (Err why) = before

abbrev pub add_status_of : Result ℕ AddFault → ℕ
add_status_of (Ok tag) = ok
add_status_of (Err why) = add_status why

abbrev pub HostAdded : Option PlainHostEndpoint → List ℕ → List ℕ → ℕ → ℕ → ℕ → Option PlainHostEndpoint → Type 0
HostAdded None name text old_tag status new_tag after = (status ≡ no_handle) × (new_tag ≡ old_tag) × (after ≡ None)
HostAdded (Some e) name text old_tag status new_tag after =
    (g : PlainHostEndpoint) × (result : Result ℕ AddFault) × (after ≡ Some g)
    × HostDoes e (call.AddFile e.host.taken name text result) g × (status ≡ add_status_of result) × (new_tag ≡ tag_or old_tag result)

abbrev pub mark_status_of : Result (Unit {0}) MarkFault → ℕ
mark_status_of (Ok done) = ok
mark_status_of (Err why) = mark_status why

abbrev pub HostMarked : Option PlainHostEndpoint → ℕ → ℕ → Option PlainHostEndpoint → Type 0
HostMarked before tag status after =
    AtHandle before status after
    (λ e status g. (result : Result (Unit {0}) MarkFault) × HostDoes e (call.MarkDirty e.host.taken tag result) g
    × (status ≡ mark_status_of result))

abbrev pub HostTaken : Option PlainHostEndpoint → List ℕ → List ℕ → ℕ → ℕ → ℕ → Option PlainHostEndpoint → Type 0
HostTaken None before after old_count status new_count g = (status ≡ no_handle) × (after ≡ before) × (new_count ≡ old_count) × (g ≡ None)
HostTaken (Some e) before after old_count status new_count g =
    (n : PlainHostEndpoint) × (g ≡ Some n) × (status ≡ ok) × Takes e.pending_bytes before after new_count n.pending_bytes
    × HostDoes e (call.TakeOut (take new_count e.pending_bytes)) n

-- the oldest tag that the host was told to write is handed out
abbrev pub HostNextWritten : Option PlainHostEndpoint → ℕ → ℕ → ℕ → Option PlainHostEndpoint → Type 0
HostNextWritten None old_tag status new_tag g = (status ≡ no_handle) × (new_tag ≡ old_tag) × (g ≡ None)
HostNextWritten (Some e) old_tag status new_tag g =
    (n : PlainHostEndpoint) × (tag : Option ℕ) × (g ≡ Some n) × HostDoes e (call.NextWritten tag) n × TellsOne tag status old_tag new_tag

-- the file of a tag
abbrev pub file_of : PlainHostEndpoint → ℕ → Option PlainFile
file_of e tag = slot e.host.files.slots tag

-- what the file of a tag was when it was written last
abbrev pub saved_of : PlainHostEndpoint → ℕ → Option (List ℕ)
saved_of e tag = (file_at e.host.files tag).saved

abbrev pub dot_of : PlainHostEndpoint → ℕ → Option (ℕ × ℕ)
dot_of e tag = option_map (λ f. f.dot) (file_of e tag)
