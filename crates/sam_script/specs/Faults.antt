-- The numbers of a script's faults.
use Rattle.std.specs.Prelude.{ℕ}
use Rattle.sam_script.specs.declared.fault.ScriptFault.{ScriptFault}
use Rattle.sam_script.specs.declared.fault.ScriptFault.TheVariants.{Line, CountFull, OutOfMemory}

abbrev pub script_fault_number : ScriptFault → ℕ
script_fault_number (Line number) = 1
script_fault_number CountFull = 2
script_fault_number OutOfMemory = 3
