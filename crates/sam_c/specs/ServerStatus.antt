-- The numbers by which C knows what came of a call of a server or of a recovery.
use Rattle.std.specs.Prelude.{ℕ, Result, Ok, Err}
use Rattle.sam_server.specs.DurableServers.{PlainDurableServer}
use Rattle.sam_server.specs.Servers.{Server}
use Rattle.sam_server.specs.declared.fault.CallFault.{CallFault}
use Rattle.sam_server.specs.declared.fault.CallFault.TheVariants as call
use Rattle.sam_server.specs.declared.fault.GoOnFault.{GoOnFault}
use Rattle.sam_server.specs.declared.fault.GoOnFault.TheVariants as go_on
use Rattle.sam_server.specs.declared.fault.HeirFault.{HeirFault}
use Rattle.sam_server.specs.declared.fault.HeirFault.TheVariants as heir
use Rattle.sam_server.specs.declared.recovery.RecoveryFault.{RecoveryFault}
use Rattle.sam_server.specs.declared.recovery.RecoveryFault.TheVariants as recovery
use Rattle.sam_server.specs.declared.turn.Stop.{Stop}
use Rattle.sam_server.specs.declared.turn.Stop.TheVariants as stop
use Rattle.sam_handles.specs.Status.{ok, no_memory, unfinished, waiting, host_stop_status}

-- why a server has stopped for good
abbrev pub stop_status : Stop → ℕ
stop_status (stop.Endpoint why) = host_stop_status why
stop_status stop.CountFull = 289

-- what a call answers, where refusals have these numbers
abbrev pub call_status : {A F : Type 0} → (F → ℕ) → Result A (CallFault F) → ℕ
call_status refusal (Ok done) = ok
call_status refusal (Err (call.Stopped why)) = stop_status why
call_status refusal (Err call.Waiting) = waiting
call_status refusal (Err call.OutOfMemory) = no_memory
call_status refusal (Err (call.Refused why)) = refusal why
call_status refusal (Err call.Unfinished) = unfinished

abbrev pub go_on_status : Result (Unit {0}) GoOnFault → ℕ
go_on_status (Ok done) = ok
go_on_status (Err (go_on.Stopped why)) = stop_status why
go_on_status (Err go_on.Unfinished) = unfinished

-- why a record is not taken again
abbrev pub recovery_fault : RecoveryFault → ℕ
recovery_fault recovery.NoRecord = 290
recovery_fault recovery.NotTaken = 291
recovery_fault recovery.OutOfMemory = no_memory

abbrev pub recovery_status : Result Server RecoveryFault → ℕ
recovery_status (Ok server) = ok
recovery_status (Err why) = recovery_fault why

-- why another server doesn't begin with the texts of one
abbrev pub heir_fault : HeirFault → ℕ
heir_fault heir.Waiting = waiting
heir_fault heir.EffectWaits = 292
heir_fault heir.OutOfMemory = no_memory

abbrev pub heir_status : Result PlainDurableServer HeirFault → ℕ
heir_status (Ok server) = ok
heir_status (Err why) = heir_fault why
