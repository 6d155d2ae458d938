-- The exit status of the program, and what it writes at a fault.
use Rattle.std.specs.Prelude.{ℕ, List, ◌++◌, codes, Option, Result, Ok, Err}
use Rattle.std.specs.Fmt.{decimal}
use Rattle.std.specs.Io.KnownBytes.{Appends}
use Rattle.sam_modes.specs.declared.fault.PlayFault.{PlayFault}
use Rattle.sam_modes.specs.declared.fault.PlayFault.TheVariants.{Script, Read, Write, Side, Threads, OutOfMemory}

abbrev pub status : Result (Unit {0}) PlayFault → ℕ
status (Ok done) = 0
status (Err (Script line)) = 1
status (Err (Side stop)) = 3
status (Err Threads) = 3
status (Err OutOfMemory) = 4
status (Err Read) = 5
status (Err Write) = 5

-- the line that names a fault
abbrev pub fault_line : PlayFault → List ℕ
fault_line (Script line) = codes "= fault script " ++ decimal line ++ codes "\n"
fault_line (Side stop) = codes "= fault side\n"
fault_line Threads = codes "= fault threads\n"
fault_line OutOfMemory = codes "= fault memory\n"
fault_line Read = codes "= fault device\n"
fault_line Write = codes "= fault device\n"

-- What is written at a fault is its line and nothing else. Of a failed write nothing is known
abbrev pub IsTold : Option (List ℕ) → Option (List ℕ) → PlayFault → Type 0
IsTold before after (Script line) = Appends before after (fault_line (Script line))
IsTold before after Read = Appends before after (fault_line Read)
IsTold before after Write = Unit {0}
IsTold before after (Side stop) = Appends before after (fault_line (Side stop))
IsTold before after Threads = Appends before after (fault_line Threads)
IsTold before after OutOfMemory = Appends before after (fault_line OutOfMemory)
