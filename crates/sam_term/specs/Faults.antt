-- The numbers of the terminal's faults, and of its refusals.
use Rattle.std.specs.Prelude.{ℕ}
use Rattle.sam_term.specs.declared.fault.Refusal.{Refusal}
use Rattle.sam_term.specs.declared.fault.Refusal.TheVariants as refusal
use Rattle.sam_term.specs.declared.fault.TermFault.{TermFault}
use Rattle.sam_term.specs.declared.fault.TermFault.TheVariants as fault

abbrev pub term_fault_number : TermFault → ℕ
term_fault_number fault.FromTheFuture = 1
term_fault_number fault.NoFile = 2
term_fault_number fault.NotOpen = 3
term_fault_number fault.AlreadyBound = 4
term_fault_number fault.BadPosition = 5
term_fault_number fault.TooLong = 6
term_fault_number fault.LockNotHeld = 7
term_fault_number fault.CountFull = 8
term_fault_number fault.OutOfMemory = 9

abbrev pub refusal_number : Refusal → ℕ
refusal_number refusal.Exited = 1
refusal_number refusal.NoFile = 2
refusal_number refusal.NotOpen = 3
refusal_number refusal.BadPosition = 4
refusal_number refusal.TooLong = 5
refusal_number refusal.TextTooLong = 6
refusal_number refusal.CommandFile = 7
refusal_number refusal.BadVersion = 8
