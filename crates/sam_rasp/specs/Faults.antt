-- The numbers of the faults of rasps.
use Rattle.std.specs.Prelude.{ℕ}
use Rattle.sam_rasp.specs.declared.fault.RaspFault.{RaspFault}
use Rattle.sam_rasp.specs.declared.fault.RaspFault.TheVariants.{BadPosition, TooLong, OutOfMemory}

abbrev pub rasp_fault_number : RaspFault → ℕ
rasp_fault_number BadPosition = 1
rasp_fault_number TooLong = 2
rasp_fault_number OutOfMemory = 3
