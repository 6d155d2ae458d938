-- Why a client doesn't go on, by why one of its parts doesn't.
use Rattle.std.specs.Prelude.{Option, Some, None}
use Rattle.sam_endpoint.specs.declared.fault.EndpointFault.{EndpointFault}
use Rattle.sam_endpoint.specs.declared.fault.EndpointFault.TheVariants as ends
use Rattle.sam_endpoint.specs.declared.fault.TermStop.{TermStop}
use Rattle.sam_endpoint.specs.declared.step.BringFault.{BringFault}
use Rattle.sam_endpoint.specs.declared.step.BringFault.TheVariants as bring
use Rattle.sam_link.specs.declared.keeping.PutFault.{PutFault as SendFault}
use Rattle.sam_link.specs.declared.keeping.PutFault.TheVariants as send
use Rattle.sam_overlay.specs.declared.fault.PutFault.{PutFault}
use Rattle.sam_overlay.specs.declared.fault.PutFault.TheVariants as unput
use Rattle.sam_client.specs.declared.fault.GoOnFault.{GoOnFault}
use Rattle.sam_client.specs.declared.fault.GoOnFault.TheVariants.{Stopped, CountFull, OutOfMemory}

abbrev pub step_fault : EndpointFault TermStop → GoOnFault
step_fault (ends.Stopped why) = Stopped why
step_fault ends.CountFull = CountFull
step_fault ends.Unfinished = OutOfMemory
step_fault ends.OutOfMemory = OutOfMemory

abbrev pub bring_fault : BringFault TermStop → GoOnFault
bring_fault (bring.Stopped why) = Stopped why
bring_fault bring.CountFull = CountFull
bring_fault bring.Waiting = OutOfMemory
bring_fault bring.OutOfMemory = OutOfMemory

abbrev pub send_fault : SendFault → GoOnFault
send_fault send.CountFull = CountFull
send_fault send.OutOfMemory = OutOfMemory

-- an edit for which the text has no room waits on, and the client goes on
abbrev pub put_fault : PutFault → Option GoOnFault
put_fault (unput.Stopped why) = Some (Stopped why)
put_fault unput.TooLong = None
put_fault unput.CountFull = Some CountFull
put_fault unput.OutOfMemory = Some OutOfMemory

-- why a request did not act: that a text would be too long is never why
abbrev pub act_fault : PutFault → GoOnFault
act_fault (unput.Stopped why) = Stopped why
act_fault unput.TooLong = OutOfMemory
act_fault unput.CountFull = CountFull
act_fault unput.OutOfMemory = OutOfMemory
