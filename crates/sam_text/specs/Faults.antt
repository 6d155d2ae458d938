-- The numbers of the faults of files.
use Rattle.std.specs.Prelude.{ℕ}
use Rattle.sam_text.specs.declared.fault.FilesFault.{FilesFault}
use Rattle.sam_text.specs.declared.fault.FilesFault.TheVariants.{NoFile, BadPosition, TooLong, NoTag, OutOfMemory}

abbrev pub files_fault_number : FilesFault → ℕ
files_fault_number NoFile = 1
files_fault_number BadPosition = 2
files_fault_number TooLong = 3
files_fault_number NoTag = 4
files_fault_number OutOfMemory = 5
