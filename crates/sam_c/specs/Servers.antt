-- What the calls of a server and of a recovery do.
use Rattle.std.specs.Prelude.{◌≡◌, ◌⊎◌, ◌==◌, ℕ, List, ◌++◌, length, drop, slice_get, Bool, true, false, nat_lt, if◌then◌else◌, IfOk, Option, Some, None, Result, Err}
use Rattle.std.specs.Result.{result_ok}
use Rattle.sam_link.specs.End.{End}
use Rattle.sam_link.specs.Hellos.{ReadsHello}
use Rattle.sam_link.specs.Sessions.{IsId}
use Rattle.sam_link.specs.declared.fault.FeedFault.{FeedFault}
use Rattle.sam_link.specs.declared.fault.NotOpen.{NotOpen}
use Rattle.sam_link.specs.declared.fault.NoteFault.{NoteFault}
use Rattle.sam_link.specs.declared.hello.Hello.{Hello}
use Rattle.sam_link.specs.declared.hello.Id.{Id}
use Rattle.sam_link.specs.declared.hello.Refusal.{Refusal}
use Rattle.sam_link.specs.declared.keeping.PutFault.{PutFault}
use Rattle.sam_endpoint.specs.HostEndpoints.{PlainHostEndpoint}
use Rattle.sam_endpoint.specs.declared.fault.AddFault.{AddFault}
use Rattle.sam_server.specs.DurableServers.{GoesOn, PlainDurableServer, RefusesFile, RefusesHello, TakesOutDurable, TakesRecord, effect_due}
use Rattle.sam_server.specs.Heirs.{Inherits}
use Rattle.sam_server.specs.Records.{Called, Joined, PlainRecord}
use Rattle.sam_server.specs.Recovering.{Retakes, recovered}
use Rattle.sam_server.specs.Servers.{Close, Effect, Hear, Server, Write}
use Rattle.sam_server.specs.declared.fault.CallFault.{CallFault}
use Rattle.sam_server.specs.declared.fault.GoOnFault.{GoOnFault}
use Rattle.sam_server.specs.declared.fault.HeirFault.{HeirFault}
use Rattle.sam_server.specs.declared.recovery.RecoveryFault.{RecoveryFault}
use Rattle.sam_handles.specs.Calls.{AtHandle, handed_or}
use Rattle.sam_handles.specs.LinkIds.{id_bytes}
use Rattle.sam_handles.specs.LinkStatus.{feed_status, link_refusal, note_status, out_status, put_status}
use Rattle.sam_handles.specs.Status.{ok, no_memory, is_made, no_handle, no_room, nothing, add_status}
use Rattle.sam_c.specs.Links.{WithHello}
use Rattle.sam_c.specs.ServerStatus.{call_status, go_on_status, heir_status, recovery_status}
use Rattle.sam_c.specs.declared.server_effects.SamEffect.{SamEffect}

-- a new one with this id, or why there is none and the handle is as before
abbrev pub MadeWith : {E : Type 0} → (Id → E) → Option E → List ℕ → ℕ → Option E → Type 0
MadeWith new None bytes status after =
    ((id : Id) × IsId id × (id_bytes id ≡ bytes) × (status ≡ ok) × (after ≡ Some (new id))) ⊎ ((status ≡ no_memory) × (after ≡ None))
MadeWith new (Some e) bytes status after = (status ≡ is_made) × (after ≡ Some e)

abbrev pub host_of : PlainDurableServer → PlainHostEndpoint
host_of d = d.turn.server.host

abbrev pub link_of : PlainDurableServer → End
link_of d = d.turn.server.link

-- ## What a server takes

-- a call takes this record, where a refusal says this and has this number
abbrev pub Takes : {F : Type 0} → PlainRecord → (PlainDurableServer → F → PlainDurableServer → Type 0) → (F → ℕ)
    → PlainDurableServer → ℕ → PlainDurableServer → Type 0
Takes {F} taken refuses number d status g =
    (result : Result (Unit {0}) (CallFault F)) × TakesRecord d taken (refuses d) result g × (status ≡ call_status number result)

abbrev pub ServerTook : {F : Type 0} → Option PlainDurableServer → PlainRecord → (PlainDurableServer → F → PlainDurableServer → Type 0)
    → (F → ℕ) → ℕ → Option PlainDurableServer → Type 0
ServerTook before taken refuses number status after = AtHandle before status after (Takes taken refuses number)

-- the numbers of refusals, as a link's calls have them
abbrev pub feed_refusal : FeedFault → ℕ
feed_refusal why = feed_status (Err why)

abbrev pub note_refusal : NoteFault → ℕ
note_refusal why = note_status (Err why)

abbrev pub put_refusal : PutFault → ℕ
put_refusal why = put_status (Err why)

abbrev pub ServerAdded : Option PlainDurableServer → List ℕ → List ℕ → ℕ → ℕ → ℕ → Option PlainDurableServer → Type 0
ServerAdded None name text old status new after = (status ≡ no_handle) × (new ≡ old) × (after ≡ None)
ServerAdded (Some d) name text old status new after =
    (g : PlainDurableServer) × (result : Result ℕ (CallFault AddFault)) × (after ≡ Some g)
    × TakesRecord d (Joined name text) (RefusesFile d name text) result g
    × IfOk result (λ tag. tag ≡ length (host_of d).host.files.slots)
    × (status ≡ call_status add_status result) × (new ≡ handed_or old result)

-- the hello of the bytes is taken, or there is none and all stays
abbrev pub TakesHello : PlainDurableServer → List ℕ → ℕ → PlainDurableServer → Type 0
TakesHello d bytes status g =
    (read : Result (Option Hello) Refusal) × ReadsHello bytes read × WithHello read d status g
    (λ hello. Takes (Called hello) (λ d. RefusesHello d hello) link_refusal d status g)

abbrev pub ServerAccepted : Option PlainDurableServer → List ℕ → ℕ → Option PlainDurableServer → Type 0
ServerAccepted before bytes status after = AtHandle before status after (λ d status g. TakesHello d bytes status g)

abbrev pub ServerWentOn : Option PlainDurableServer → ℕ → Option PlainDurableServer → Type 0
ServerWentOn before status after =
    AtHandle before status after
    (λ d status g. (result : Result (Unit {0}) GoOnFault) × GoesOn d result g × (status ≡ go_on_status result))

-- a call that can't be refused makes this of the server
abbrev pub ServerDone : Option PlainDurableServer → (PlainDurableServer → PlainDurableServer) → ℕ → Option PlainDurableServer → Type 0
ServerDone before changed status after = AtHandle before status after (λ d status g. (status ≡ ok) × (g ≡ changed d))

-- ## What it hands out

abbrev pub ServerTakenOut : Option PlainDurableServer → ℕ → List ℕ → List ℕ → ℕ → ℕ → ℕ → Option PlainDurableServer → Type 0
ServerTakenOut None attempt before after old status new g = (status ≡ no_handle) × (after ≡ before) × (new ≡ old) × (g ≡ None)
ServerTakenOut (Some d) attempt before after old status new g =
    (n : PlainDurableServer) × (result : Result ℕ NotOpen) × (g ≡ Some n) × TakesOutDurable d attempt before result after n
    × (status ≡ out_status result) × (new ≡ handed_or old result)

-- a buffer, and how many bytes of it were written
pub record Copied : Type 0 where
  pub buffer : List ℕ
  pub len : ℕ

abbrev pub copied : List ℕ → ℕ → Copied
copied buffer len = record { buffer = buffer; len = len }

-- the buffer is too short for these bytes
abbrev pub is_short : Copied → List ℕ → Bool
is_short c bytes = nat_lt (length c.buffer) (length bytes)

-- all bytes stand in the buffer, and behind them what stood there before; where it is too short all stays
abbrev pub Copies : List ℕ → Bool → Copied → ℕ → Copied → Type 0
Copies bytes true old status new = (status ≡ no_room) × (new ≡ old)
Copies bytes false old status new =
    (status ≡ ok) × (new.buffer ≡ bytes ++ drop (length bytes) old.buffer) × (new.len ≡ length bytes)

abbrev pub CopiesSome : Option (List ℕ) → Copied → ℕ → Copied → Type 0
CopiesSome None old status new = (status ≡ nothing) × (new ≡ old)
CopiesSome (Some bytes) old status new = Copies bytes (is_short old bytes) old status new

abbrev pub ReportsWhole : {E : Type 0} → Option E → Copied → ℕ → Copied → (E → Option (List ℕ)) → Type 0
ReportsWhole None old status new read = (status ≡ no_handle) × (new ≡ old)
ReportsWhole (Some e) old status new read = CopiesSome (read e) old status new

-- a record that was copied is handed out
abbrev pub left_after : ℕ → List (List ℕ) → List (List ℕ)
left_after status records = if status == ok then drop 1 records else records

abbrev pub ServerNextRecord : Option PlainDurableServer → Copied → ℕ → Copied → Option PlainDurableServer → Type 0
ServerNextRecord None old status new after = (status ≡ no_handle) × (new ≡ old) × (after ≡ None)
ServerNextRecord (Some d) old status new after =
    CopiesSome (slice_get d.records 0) old status new × (after ≡ Some (record d { records = left_after status d.records }))

-- ## Effects

-- what the program is asked to do, as C has it
abbrev pub told_effect : Effect → SamEffect
told_effect (Write tag) = record { kind = 1; len = 0; tag = tag }
told_effect (Hear bytes) = record { kind = 2; len = length bytes; tag = 0 }
told_effect (Close tag name text) = record { kind = 3; len = length text; tag = tag }

abbrev pub heard_in : Option Effect → Option (List ℕ)
heard_in None = None
heard_in (Some (Write tag)) = None
heard_in (Some (Hear bytes)) = Some bytes
heard_in (Some (Close tag name text)) = None

-- the message that is to be heard now
abbrev pub heard : PlainDurableServer → Option (List ℕ)
heard d = heard_in (effect_due d)

abbrev pub closed_name_in : Option Effect → Option (List ℕ)
closed_name_in None = None
closed_name_in (Some (Write tag)) = None
closed_name_in (Some (Hear bytes)) = None
closed_name_in (Some (Close tag name text)) = Some name

-- the name and the text of the file that was closed just now
abbrev pub closed_name : PlainDurableServer → Option (List ℕ)
closed_name d = closed_name_in (effect_due d)

abbrev pub closed_text_in : Option Effect → Option (List ℕ)
closed_text_in None = None
closed_text_in (Some (Write tag)) = None
closed_text_in (Some (Hear bytes)) = None
closed_text_in (Some (Close tag name text)) = Some text

abbrev pub closed_text : PlainDurableServer → Option (List ℕ)
closed_text d = closed_text_in (effect_due d)

-- ## A recovery

-- after a refusal nothing is left of it
abbrev pub RecoveryTook : Option Server → List ℕ → ℕ → Option Server → Type 0
RecoveryTook None body status after = (status ≡ no_handle) × (after ≡ None)
RecoveryTook (Some s) body status after =
    (result : Result Server RecoveryFault) × Retakes s body result × (status ≡ recovery_status result) × (after ≡ result_ok result)

-- a server goes on in an empty handle, or there is no memory for it and both handles are as before
abbrev pub FinishesInto : Server → Option PlainDurableServer → ℕ → Option Server → Option PlainDurableServer → Type 0
FinishesInto s (Some d) status left after = (status ≡ is_made) × (left ≡ Some s) × (after ≡ Some d)
FinishesInto s None status left after =
    ((status ≡ ok) × (left ≡ None) × (after ≡ Some (recovered s))) ⊎ ((status ≡ no_memory) × (left ≡ Some s) × (after ≡ None))

abbrev pub RecoveryFinished : Option Server → Option PlainDurableServer → ℕ → Option Server → Option PlainDurableServer → Type 0
RecoveryFinished None server status left after = (status ≡ no_handle) × (left ≡ None) × (after ≡ server)
RecoveryFinished (Some s) server status left after = FinishesInto s server status left after

-- ## A takeover

-- another server begins in an empty handle with the texts of this one, or there is none and the handle is as before
abbrev pub InheritsInto : PlainDurableServer → List ℕ → Option PlainDurableServer → ℕ → Option PlainDurableServer → Type 0
InheritsInto d bytes (Some e) status after = (status ≡ is_made) × (after ≡ Some e)
InheritsInto d bytes None status after =
    (id : Id) × IsId id × (id_bytes id ≡ bytes)
    × (result : Result PlainDurableServer HeirFault) × Inherits d id result × (status ≡ heir_status result) × (after ≡ result_ok result)

abbrev pub ServerInherited : Option PlainDurableServer → List ℕ → Option PlainDurableServer → ℕ → Option PlainDurableServer → Type 0
ServerInherited None bytes heir status after = (status ≡ no_handle) × (after ≡ heir)
ServerInherited (Some d) bytes heir status after = InheritsInto d bytes heir status after
