-- The numbers of the faults of a text.
use Rattle.std.specs.Prelude.{ℕ}
use Rattle.sam_runes.specs.declared.fault.TextFault.{TextFault}
use Rattle.sam_runes.specs.declared.fault.TextFault.TheVariants.{TooLong, OutOfMemory}

abbrev pub text_fault_number : TextFault → ℕ
text_fault_number TooLong = 1
text_fault_number OutOfMemory = 2
