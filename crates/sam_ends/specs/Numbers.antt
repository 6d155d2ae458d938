-- Stops, which name a fault by its number.
use Rattle.std.specs.Prelude.{◌≡◌, ℕ, ◌^◌, ◌≤◌, ◌⊎◌, List}
use Rattle.sam_mesg.specs.Faults.{mesg_fault_number}
use Rattle.sam_mesg.specs.declared.fault.MesgFault.{MesgFault}
use Rattle.sam_mesg.specs.declared.fault.MesgFault.TheVariants as wrong
use Rattle.sam_frame.specs.Direction.{Direction}
use Rattle.sam_frame.specs.Faults.{refusal_number as unfed_number}
use Rattle.sam_frame.specs.Stream.{Shows}
use Rattle.sam_frame.specs.declared.fault.FeedRefusal.{FeedRefusal}
use Rattle.sam_frame.specs.declared.fault.FeedRefusal.TheVariants as unfed
use Rattle.sam_host.specs.Faults.{host_fault_number}
use Rattle.sam_host.specs.declared.fault.HostFault.{HostFault}
use Rattle.sam_host.specs.declared.fault.HostFault.TheVariants as refusal
use Rattle.sam_term.specs.Faults.{term_fault_number}
use Rattle.sam_term.specs.declared.fault.TermFault.{TermFault}
use Rattle.sam_term.specs.declared.fault.TermFault.TheVariants as fault
use Rattle.sam_ends.specs.declared.stop.Stop.{Stop}
use Rattle.sam_ends.specs.declared.stop.Stop.TheVariants as stop

-- what a fault of a frame is for a worker
abbrev pub of_fault : MesgFault → Stop
of_fault wrong.OutOfMemory = stop.Memory
of_fault wrong.BadKind = stop.Frame (mesg_fault_number wrong.BadKind)
of_fault wrong.BadLength = stop.Frame (mesg_fault_number wrong.BadLength)
of_fault wrong.BadText = stop.Frame (mesg_fault_number wrong.BadText)

-- what it is for a worker that its framer refuses a piece
abbrev pub of_unfed : FeedRefusal → Stop
of_unfed unfed.OutOfMemory = stop.Memory
of_unfed unfed.Failed = stop.Frame (unfed_number unfed.Failed)
of_unfed unfed.CountFull = stop.Frame (unfed_number unfed.CountFull)

-- a reader of a stream stops with this number: more bytes came than can be counted, or what it has not read shows the fault
abbrev pub StopsWith : {M : Type 0} → Direction M → ℕ → ℕ → List ℕ → ℕ → Type 0
StopsWith d version came rest n =
    ((n ≡ 7) × (2 ^ 64 ≤ came)) ⊎ ((fault : MesgFault) × Shows d version rest fault × (n ≡ mesg_fault_number fault))

-- what a fault of the terminal is for a worker
abbrev pub of_term_fault : TermFault → Stop
of_term_fault fault.OutOfMemory = stop.Memory
of_term_fault fault.FromTheFuture = stop.Term (term_fault_number fault.FromTheFuture)
of_term_fault fault.NoFile = stop.Term (term_fault_number fault.NoFile)
of_term_fault fault.NotOpen = stop.Term (term_fault_number fault.NotOpen)
of_term_fault fault.AlreadyBound = stop.Term (term_fault_number fault.AlreadyBound)
of_term_fault fault.BadPosition = stop.Term (term_fault_number fault.BadPosition)
of_term_fault fault.TooLong = stop.Term (term_fault_number fault.TooLong)
of_term_fault fault.LockNotHeld = stop.Term (term_fault_number fault.LockNotHeld)
of_term_fault fault.CountFull = stop.Term (term_fault_number fault.CountFull)

-- what a refusal of the host is for a worker
abbrev pub of_refusal : HostFault → Stop
of_refusal refusal.OutOfMemory = stop.Memory
of_refusal refusal.NoFile = stop.Host (host_fault_number refusal.NoFile)
of_refusal refusal.NotOpen = stop.Host (host_fault_number refusal.NotOpen)
of_refusal refusal.BadPosition = stop.Host (host_fault_number refusal.BadPosition)
of_refusal refusal.TooLong = stop.Host (host_fault_number refusal.TooLong)
of_refusal refusal.BadVersion = stop.Host (host_fault_number refusal.BadVersion)
of_refusal refusal.CountFull = stop.Host (host_fault_number refusal.CountFull)
of_refusal refusal.CommandFile = stop.Host (host_fault_number refusal.CommandFile)
