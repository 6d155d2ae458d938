-- The numbers by which C knows what came of a call of a link.
use Rattle.std.specs.Prelude.{ℕ, List, [], ◌∷◌, Option, Result, Ok, Err}
use Rattle.sam_mesg.specs.Bounds.{entry}
use Rattle.sam_link.specs.declared.hello.Refusal.{Refusal}
use Rattle.sam_link.specs.declared.hello.Refusal.TheVariants.{NotALink, OtherVersion, BadHello, NoSession, OtherSession, OldAttempt, WrongCount}
use Rattle.sam_link.specs.declared.fault.AnswerFault.{AnswerFault}
use Rattle.sam_link.specs.declared.fault.AnswerFault.TheVariants as answers
use Rattle.sam_link.specs.declared.fault.CallFault.{CallFault}
use Rattle.sam_link.specs.declared.fault.CallFault.TheVariants as calls
use Rattle.sam_link.specs.declared.fault.FeedFault.{FeedFault}
use Rattle.sam_link.specs.declared.fault.FeedFault.TheVariants as feeds
use Rattle.sam_link.specs.declared.fault.NotOpen.{NotOpen}
use Rattle.sam_link.specs.declared.fault.NoteFault.{NoteFault}
use Rattle.sam_link.specs.declared.fault.NoteFault.TheVariants as notes
use Rattle.sam_link.specs.declared.fault.WelcomeFault.{WelcomeFault}
use Rattle.sam_link.specs.declared.fault.WelcomeFault.TheVariants as welcomes
use Rattle.sam_link.specs.declared.keeping.PutFault.{PutFault}
use Rattle.sam_link.specs.declared.keeping.PutFault.TheVariants as puts
use Rattle.sam_link.specs.declared.phase.Phase.{Phase}
use Rattle.sam_link.specs.declared.phase.Phase.TheVariants.{Down, Asking, Open}
use Rattle.sam_link.specs.declared.phase.Role.{Role}
use Rattle.sam_link.specs.declared.phase.Role.TheVariants.{Terminal, Host}
use Rattle.sam_link.specs.declared.reading.PacketFault.TheVariants.{BadKind, BadLength}
use Rattle.sam_handles.specs.Status.{ok, no_memory, count_full}

-- the side of a number
abbrev pub role_of : ℕ → Option Role
role_of number = entry 0 (Terminal ∷ Host ∷ []) number

abbrev pub phase_number : Phase → ℕ
phase_number Down = 0
phase_number Asking = 1
phase_number Open = 2

-- the refusals in the order of their numbers, from 193 on
abbrev pub link_refusals : List Refusal
link_refusals = NotALink ∷ OtherVersion ∷ BadHello ∷ NoSession ∷ OtherSession ∷ OldAttempt ∷ WrongCount ∷ []

abbrev pub link_refusal : Refusal → ℕ
link_refusal NotALink = 193
link_refusal OtherVersion = 194
link_refusal BadHello = 195
link_refusal NoSession = 196
link_refusal OtherSession = 197
link_refusal OldAttempt = 198
link_refusal WrongCount = 199

abbrev pub wrong_role : ℕ
wrong_role = 200

abbrev pub not_open : ℕ
not_open = 201

abbrev pub no_room : ℕ
no_room = 206

abbrev pub call_status : Result ℕ CallFault → ℕ
call_status (Ok attempt) = ok
call_status (Err calls.WrongRole) = wrong_role
call_status (Err calls.CountFull) = count_full

abbrev pub answer_status : Result (Unit {0}) AnswerFault → ℕ
answer_status (Ok done) = ok
answer_status (Err answers.WrongRole) = wrong_role
answer_status (Err (answers.Refused why)) = link_refusal why

abbrev pub welcome_status : Result (Unit {0}) WelcomeFault → ℕ
welcome_status (Ok done) = ok
welcome_status (Err welcomes.WrongRole) = wrong_role
welcome_status (Err welcomes.NotOpen) = not_open
welcome_status (Err (welcomes.ByHost why)) = link_refusal why
welcome_status (Err (welcomes.Here why)) = link_refusal why

abbrev pub put_status : Result (Unit {0}) PutFault → ℕ
put_status (Ok done) = ok
put_status (Err puts.CountFull) = count_full
put_status (Err puts.OutOfMemory) = no_memory

abbrev pub note_status : Result (Unit {0}) NoteFault → ℕ
note_status (Ok done) = ok
note_status (Err notes.TooLong) = 202
note_status (Err notes.CountFull) = count_full
note_status (Err notes.OutOfMemory) = no_memory

abbrev pub out_status : Result ℕ NotOpen → ℕ
out_status (Ok count) = ok
out_status (Err why) = not_open

abbrev pub feed_status : Result (Unit {0}) FeedFault → ℕ
feed_status (Ok done) = ok
feed_status (Err feeds.NotOpen) = not_open
feed_status (Err feeds.CountFull) = count_full
feed_status (Err feeds.OutOfMemory) = no_memory
feed_status (Err (feeds.Wrong BadKind)) = 203
feed_status (Err (feeds.Wrong BadLength)) = 204
feed_status (Err feeds.AckAhead) = 205
