-- The numbers by which C knows what came of a call of an overlay.
use Rattle.std.specs.Prelude.{ℕ, Option, Some, None, Result, Ok, Err}
use Rattle.sam_term.specs.declared.fault.Refusal.TheVariants as refusal
use Rattle.sam_endpoint.specs.declared.fault.TermStop.{TermStop}
use Rattle.sam_overlay.specs.declared.fault.AskFault.{AskFault}
use Rattle.sam_overlay.specs.declared.fault.AskFault.TheVariants as unasked
use Rattle.sam_overlay.specs.declared.fault.PutFault.{PutFault}
use Rattle.sam_overlay.specs.declared.fault.PutFault.TheVariants as unput
use Rattle.sam_overlay.specs.declared.fault.ReplaceFault.{ReplaceFault}
use Rattle.sam_overlay.specs.declared.fault.ReplaceFault.TheVariants as refuses
use Rattle.sam_overlay.specs.declared.shown_change.Put.{Put}
use Rattle.sam_overlay.specs.declared.shown_change.Put.TheVariants as put
use Rattle.sam_overlay.specs.declared.shown_change.Turn.{Turn}
use Rattle.sam_overlay.specs.declared.shown_change.Turn.TheVariants as turn
use Rattle.sam_shown.specs.declared.splices.SpliceKind.{SpliceKind}
use Rattle.sam_shown.specs.declared.splices.SpliceKind.TheVariants as splice
use Rattle.sam_handles.specs.Status.{ok, no_memory, count_full, waiting, too_many, refusal_status, term_stop_status}

-- why an end has stopped, or that it goes on
abbrev pub stop_status : Option TermStop → ℕ
stop_status None = ok
stop_status (Some why) = term_stop_status why

-- why an edit is refused, at an end that has stopped so: what means the same for an event has the same number
abbrev pub replace_fault : Option TermStop → ReplaceFault → ℕ
replace_fault stop refuses.Exited = refusal_status refusal.Exited
replace_fault stop refuses.Stopped = stop_status stop
replace_fault stop refuses.NoFile = refusal_status refusal.NoFile
replace_fault stop refuses.CommandFile = refusal_status refusal.CommandFile
replace_fault stop refuses.NotOpen = refusal_status refusal.NotOpen
replace_fault stop refuses.BadPosition = refusal_status refusal.BadPosition
replace_fault stop refuses.TooLong = refusal_status refusal.TooLong
replace_fault stop refuses.OutOfMemory = no_memory

abbrev pub replace_status : Option TermStop → Result (Unit {0}) ReplaceFault → ℕ
replace_status stop (Ok done) = ok
replace_status stop (Err why) = replace_fault stop why

abbrev pub put_fault : PutFault → ℕ
put_fault (unput.Stopped why) = term_stop_status why
put_fault unput.TooLong = refusal_status refusal.TooLong
put_fault unput.CountFull = count_full
put_fault unput.OutOfMemory = no_memory

abbrev pub put_status : {A : Type 0} → Result A PutFault → ℕ
put_status (Ok done) = ok
put_status (Err why) = put_fault why

-- what became of an edit that was to be put
abbrev pub put_number : Put → ℕ
put_number put.Nothing = 0
put_number put.NotFree = 1
put_number put.Edit = 2

-- why a request is not taken in
abbrev pub ask_fault : AskFault → ℕ
ask_fault unasked.Waiting = waiting
ask_fault unasked.TooMany = too_many
ask_fault unasked.CountFull = count_full
ask_fault unasked.OutOfMemory = no_memory

abbrev pub ask_status : {A : Type 0} → Result A AskFault → ℕ
ask_status (Ok done) = ok
ask_status (Err why) = ask_fault why

-- what became of the oldest request that was to act
abbrev pub turn_number : Turn → ℕ
turn_number turn.Nothing = 0
turn_number turn.NotYet = 1
turn_number turn.Request = 2

abbrev pub splice_number : SpliceKind → ℕ
splice_number splice.Came = 1
splice_number splice.Went = 2
splice_number splice.Filled = 3
splice_number splice.Emptied = 4
