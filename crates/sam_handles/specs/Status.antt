-- The numbers by which C knows what came of a call: enum sam_status of include/sulgrevad.h.
use Rattle.std.specs.Prelude.{ℕ, Result, Ok, Err}
use Rattle.sam_runes.specs.declared.codec.ReadFault.{ReadFault}
use Rattle.sam_runes.specs.declared.codec.ReadFault.TheVariants as reading
use Rattle.sam_host.specs.declared.fault.HostFault.{HostFault}
use Rattle.sam_host.specs.declared.fault.HostFault.TheVariants as host
use Rattle.sam_host.specs.declared.fault.MarkFault.{MarkFault}
use Rattle.sam_host.specs.declared.fault.MarkFault.TheVariants as marking
use Rattle.sam_term.specs.declared.fault.TermFault.{TermFault}
use Rattle.sam_term.specs.declared.fault.Refusal.{Refusal}
use Rattle.sam_term.specs.declared.fault.TermFault.TheVariants as term
use Rattle.sam_term.specs.declared.fault.Refusal.TheVariants as refusal
use Rattle.sam_endpoint.specs.declared.fault.AddFault.{AddFault}
use Rattle.sam_endpoint.specs.declared.fault.StreamFault.{StreamFault}
use Rattle.sam_endpoint.specs.declared.fault.HostStop.{HostStop}
use Rattle.sam_endpoint.specs.declared.fault.TermStop.{TermStop}
use Rattle.sam_endpoint.specs.declared.fault.EndpointFault.{EndpointFault}
use Rattle.sam_endpoint.specs.declared.fault.AddFault.TheVariants as opening
use Rattle.sam_endpoint.specs.declared.fault.StreamFault.TheVariants as stream
use Rattle.sam_endpoint.specs.declared.fault.HostStop.TheVariants as host_stop
use Rattle.sam_endpoint.specs.declared.fault.TermStop.TheVariants as term_stop
use Rattle.sam_endpoint.specs.declared.fault.EndpointFault.TheVariants as fault
use Rattle.sam_endpoint.specs.declared.step.BringFault.{BringFault}
use Rattle.sam_endpoint.specs.declared.step.BringFault.TheVariants as bring
use Rattle.sam_endpoint.specs.declared.fault.FinishFault.{FinishFault}
use Rattle.sam_endpoint.specs.declared.fault.FinishFault.TheVariants as ending

abbrev pub ok : ℕ
ok = 0

abbrev pub no_memory : ℕ
no_memory = 1

abbrev pub unfinished : ℕ
unfinished = 2

abbrev pub count_full : ℕ
count_full = 3

abbrev pub no_handle : ℕ
no_handle = 4

abbrev pub is_made : ℕ
is_made = 5

abbrev pub not_text : ℕ
not_text = 6

abbrev pub nothing : ℕ
nothing = 7

abbrev pub waiting : ℕ
waiting = 8

abbrev pub no_room : ℕ
no_room = 9

abbrev pub too_many : ℕ
too_many = 10

-- why a text is not read
abbrev pub read_status : ReadFault → ℕ
read_status reading.NotText = not_text
read_status reading.OutOfMemory = no_memory

-- why a file is not added
abbrev pub add_status : AddFault → ℕ
add_status opening.NotText = not_text
add_status opening.TooLong = 19
add_status opening.NoTag = 20
add_status opening.OutOfMemory = no_memory

-- why a file is not marked as dirty
abbrev pub mark_status : MarkFault → ℕ
mark_status marking.NoFile = nothing
mark_status marking.CommandFile = 50
mark_status marking.NotAnnounced = 51
mark_status marking.OutOfMemory = no_memory

abbrev pub stream_status : StreamFault → ℕ
stream_status stream.BadKind = 33
stream_status stream.BadLength = 34
stream_status stream.BadText = 35

-- a stream that ends inside a frame
abbrev pub truncated : ℕ
truncated = 36

abbrev pub host_refusal : HostFault → ℕ
host_refusal host.NoFile = 65
host_refusal host.NotOpen = 66
host_refusal host.BadPosition = 67
host_refusal host.TooLong = 68
host_refusal host.BadVersion = 69
host_refusal host.CountFull = 70
host_refusal host.OutOfMemory = 71
host_refusal host.CommandFile = 72

abbrev pub host_stop_status : HostStop → ℕ
host_stop_status (host_stop.Stream why) = stream_status why
host_stop_status (host_stop.Refused why) = host_refusal why

abbrev pub term_refusal : TermFault → ℕ
term_refusal term.FromTheFuture = 97
term_refusal term.NoFile = 98
term_refusal term.NotOpen = 99
term_refusal term.AlreadyBound = 100
term_refusal term.BadPosition = 101
term_refusal term.TooLong = 102
term_refusal term.LockNotHeld = 103
term_refusal term.CountFull = 104
term_refusal term.OutOfMemory = 105

abbrev pub term_stop_status : TermStop → ℕ
term_stop_status (term_stop.Stream why) = stream_status why
term_stop_status (term_stop.Refused why) = term_refusal why

-- why an event was refused
abbrev pub refusal_status : Refusal → ℕ
refusal_status refusal.Exited = 129
refusal_status refusal.NoFile = 130
refusal_status refusal.NotOpen = 131
refusal_status refusal.BadPosition = 132
refusal_status refusal.TooLong = 133
refusal_status refusal.TextTooLong = 134
refusal_status refusal.CommandFile = 135
refusal_status refusal.BadVersion = 136

-- what a call to an end answers, where stops have these numbers
abbrev pub call_status : {A S : Type 0} → (S → ℕ) → Result A (EndpointFault S) → ℕ
call_status stopped (Ok done) = ok
call_status stopped (Err fault.OutOfMemory) = no_memory
call_status stopped (Err fault.Unfinished) = unfinished
call_status stopped (Err fault.CountFull) = count_full
call_status stopped (Err (fault.Stopped why)) = stopped why

abbrev pub host_status : Result (Unit {0}) (EndpointFault HostStop) → ℕ
host_status result = call_status host_stop_status result

abbrev pub term_status : Result (Unit {0}) (EndpointFault TermStop) → ℕ
term_status result = call_status term_stop_status result

-- what bringing bytes answers, where stops have these numbers
abbrev pub bring_status : {S : Type 0} → (S → ℕ) → Result (Unit {0}) (BringFault S) → ℕ
bring_status stopped (Ok done) = ok
bring_status stopped (Err bring.Waiting) = waiting
bring_status stopped (Err bring.CountFull) = count_full
bring_status stopped (Err bring.OutOfMemory) = no_memory
bring_status stopped (Err (bring.Stopped why)) = stopped why

-- what the end of a stream answers, where stops have these numbers
abbrev pub finish_status : {S : Type 0} → (S → ℕ) → Result (Unit {0}) (FinishFault S) → ℕ
finish_status stopped (Ok done) = ok
finish_status stopped (Err ending.Unfinished) = unfinished
finish_status stopped (Err ending.Truncated) = truncated
finish_status stopped (Err (ending.Stopped why)) = stopped why

abbrev pub host_finish_status : Result (Unit {0}) (FinishFault HostStop) → ℕ
host_finish_status result = finish_status host_stop_status result

abbrev pub term_finish_status : Result (Unit {0}) (FinishFault TermStop) → ℕ
term_finish_status result = finish_status term_stop_status result
