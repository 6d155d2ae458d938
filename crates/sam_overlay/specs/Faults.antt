-- The fault of an edit that is not put, by that of its event.
use Rattle.sam_endpoint.specs.declared.fault.TermStop.{TermStop}
use Rattle.sam_endpoint.specs.declared.step.BringFault.{BringFault}
use Rattle.sam_endpoint.specs.declared.step.BringFault.TheVariants as bring
use Rattle.sam_overlay.specs.declared.fault.PutFault.{PutFault}
use Rattle.sam_overlay.specs.declared.fault.PutFault.TheVariants as unput

-- an event is never told to wait
abbrev pub put_fault : BringFault TermStop → PutFault
put_fault (bring.Stopped why) = unput.Stopped why
put_fault bring.CountFull = unput.CountFull
put_fault bring.Waiting = unput.OutOfMemory
put_fault bring.OutOfMemory = unput.OutOfMemory
