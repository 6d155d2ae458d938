-- The numbers of the faults of pending edits.
use Rattle.std.specs.Prelude.{ℕ}
use Rattle.sam_pending.specs.declared.fault.PendingFault.{PendingFault}
use Rattle.sam_pending.specs.declared.fault.PendingFault.TheVariants.{BadPosition, TooLong, OutOfMemory}

abbrev pub pending_fault_number : PendingFault → ℕ
pending_fault_number BadPosition = 1
pending_fault_number TooLong = 2
pending_fault_number OutOfMemory = 3
