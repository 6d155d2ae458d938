-- The numbers of the host's faults, and those that come from its files.
use Rattle.std.specs.Prelude.{ℕ}
use Rattle.sam_text.specs.declared.fault.FilesFault.{FilesFault}
use Rattle.sam_text.specs.declared.fault.FilesFault.TheVariants as files
use Rattle.sam_host.specs.declared.fault.HostFault.{HostFault}
use Rattle.sam_host.specs.declared.fault.HostFault.TheVariants.{NoFile, NotOpen, BadPosition, TooLong, BadVersion, CountFull, OutOfMemory, CommandFile}

abbrev pub host_fault_number : HostFault → ℕ
host_fault_number NoFile = 1
host_fault_number NotOpen = 2
host_fault_number BadPosition = 3
host_fault_number TooLong = 4
host_fault_number BadVersion = 5
host_fault_number CountFull = 6
host_fault_number OutOfMemory = 7
host_fault_number CommandFile = 8

-- what the host refuses with where its files refuse. It adds a file only while a tag is left
abbrev pub of_files : FilesFault → HostFault
of_files files.NoFile = NoFile
of_files files.BadPosition = BadPosition
of_files files.TooLong = TooLong
of_files files.NoTag = OutOfMemory
of_files files.OutOfMemory = OutOfMemory
