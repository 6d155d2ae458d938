-- The numbers by which C knows what a client tells, why it doesn't go on, and why a task is not begun.
use Rattle.std.specs.Prelude.{ℕ, [], ◌∷◌, Option, Result, Ok, Err}
use Rattle.sam_mesg.specs.Bounds.{entry}
use Rattle.sam_note.specs.declared.fault.NoteFault.TheVariants as note
use Rattle.sam_term.specs.declared.fault.Refusal.TheVariants as refusal
use Rattle.sam_client.specs.declared.fault.GoOnFault.{GoOnFault}
use Rattle.sam_client.specs.declared.fault.GoOnFault.TheVariants.{Stopped, CountFull, OutOfMemory}
use Rattle.sam_front.specs.declared.fault.BeginFault.{BeginFault}
use Rattle.sam_front.specs.declared.fault.BeginFault.TheVariants as unbegun
use Rattle.sam_front.specs.declared.fault.RunFault.{RunFault}
use Rattle.sam_front.specs.declared.fault.RunFault.TheVariants as unrun
use Rattle.sam_front.specs.declared.fault.WriteFault.{WriteFault}
use Rattle.sam_front.specs.declared.fault.WriteFault.TheVariants as unwritten
use Rattle.sam_front.specs.declared.told.Order.{Order}
use Rattle.sam_front.specs.declared.told.Order.TheVariants.{Open, Complete, Reload}
use Rattle.sam_front.specs.declared.told.Told.{Told}
use Rattle.sam_front.specs.declared.told.Told.TheVariants as tell
use Rattle.sam_handles.specs.NoteStatus.{fault_status}
use Rattle.sam_handles.specs.OverlayStatus.{ask_fault}
use Rattle.sam_handles.specs.Status.{ok, no_memory, not_text, unfinished, count_full, too_many, refusal_status, term_stop_status}

-- what is told
abbrev pub event_number : Told → ℕ
event_number tell.Idle = 0
event_number tell.Busy = 1
event_number (tell.Stepped step request) = 2
event_number (tell.Refused refused) = 3
event_number tell.Note = 4
event_number (tell.Answered task) = 5
event_number (tell.Unanswered task) = 6
event_number (tell.Ran ran) = 7
event_number (tell.Lapsed request) = 8

-- why a client doesn't go on: nothing is lost where memory was refused
abbrev pub go_on_fault : GoOnFault → ℕ
go_on_fault (Stopped why) = term_stop_status why
go_on_fault CountFull = count_full
go_on_fault OutOfMemory = unfinished

abbrev pub go_on_status : Result Told GoOnFault → ℕ
go_on_status (Ok told) = ok
go_on_status (Err why) = go_on_fault why

-- what the host's program is to do, by the number of the kind of its message
abbrev pub order_of : ℕ → Option Order
order_of number = entry 1 (Open ∷ Complete ∷ Reload ∷ []) number

-- why a task is not begun: what is wrong with its message has the number that sam_note_write would have
abbrev pub begin_fault : BeginFault → ℕ
begin_fault unbegun.TooMany = too_many
begin_fault unbegun.CountFull = count_full
begin_fault unbegun.BadField = fault_status note.BadField
begin_fault unbegun.BadLength = fault_status note.BadLength
begin_fault unbegun.BadPath = fault_status note.BadPath
begin_fault unbegun.OutOfMemory = no_memory

abbrev pub begin_status : Result ℕ BeginFault → ℕ
begin_status (Ok task) = ok
begin_status (Err why) = begin_fault why

-- why a write is not asked for
abbrev pub write_status : Result ℕ WriteFault → ℕ
write_status (Ok task) = ok
write_status (Err (unwritten.Begin why)) = begin_fault why
write_status (Err (unwritten.Ask why)) = ask_fault why

-- why a command line is not asked for
abbrev pub run_status : Result ℕ RunFault → ℕ
run_status (Ok request) = ok
run_status (Err unrun.NotLine) = not_text
run_status (Err unrun.NotOpen) = refusal_status refusal.NotOpen
run_status (Err unrun.TooLong) = refusal_status refusal.TextTooLong
run_status (Err (unrun.Ask why)) = ask_fault why
