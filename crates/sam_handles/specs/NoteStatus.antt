-- The numbers by which C knows why bytes are no message, or why a message is not written.
use Rattle.std.specs.Prelude.{ℕ}
use Rattle.sam_note.specs.declared.fault.NoteFault.{NoteFault}
use Rattle.sam_note.specs.declared.fault.NoteFault.TheVariants.{BadKind, BadField, BadLength, BadPath, BadText}

abbrev pub fault_status : NoteFault → ℕ
fault_status BadKind = 225
fault_status BadField = 226
fault_status BadLength = 227
fault_status BadPath = 228
fault_status BadText = 229
