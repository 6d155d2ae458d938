-- The numbers of the faults of messages.
use Rattle.std.specs.Prelude.{ℕ}
use Rattle.sam_mesg.specs.declared.fault.MesgFault.{MesgFault}
use Rattle.sam_mesg.specs.declared.fault.MesgFault.TheVariants.{BadKind, BadLength, BadText, OutOfMemory}

abbrev pub mesg_fault_number : MesgFault → ℕ
mesg_fault_number BadKind = 1
mesg_fault_number BadLength = 2
mesg_fault_number BadText = 3
mesg_fault_number OutOfMemory = 4
