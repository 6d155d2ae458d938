-- What a call answers, against what its definition answers.
use Rattle.std.specs.Prelude.{◌≡◌, ◌⊎◌, Bool, true, false, drop, List, Option, Result, Ok, Err, IsOk}
use Rattle.sam_runes.specs.Checks.{first_of_checks}
use Rattle.sam_term.specs.Term.{PlainTerminal, Made, frame_checks, if_countable}
use Rattle.sam_term.specs.declared.event.Acted.{Acted}
use Rattle.sam_term.specs.declared.event.Acted.TheVariants.{Done, Idle, Locked, Refused}
use Rattle.sam_term.specs.declared.event.Verdict.{Verdict}
use Rattle.sam_term.specs.declared.event.Verdict.TheVariants.{Waits, Refuses}
use Rattle.sam_mesg.specs.declared.tmesg.Tmesg.{Tmesg}
use Rattle.sam_mesg.specs.declared.hmesg.Hmesg.{Hmesg}
use Rattle.sam_term.specs.declared.fault.TermFault.{TermFault}
use Rattle.sam_term.specs.declared.fault.TermFault.TheVariants.{FromTheFuture, NoFile, NotOpen, AlreadyBound, BadPosition, TooLong, LockNotHeld, CountFull, OutOfMemory}

-- a call may fail as the definition refuses, and when out of memory only where the definition answers
abbrev pub IsFailure : {A : Type 0} → Result A TermFault → TermFault → Type 0
IsFailure answer why = ((why ≡ OutOfMemory) × (IsOk answer)) ⊎ (answer ≡ Err why)

-- t became u: at Ok just what the definition answers, else the call may fail so and has changed nothing
abbrev pub IsAnswer : {A : Type 0} → PlainTerminal → PlainTerminal → Result A TermFault → Result (PlainTerminal × A) TermFault → Type 0
IsAnswer t u (Ok x) answer = answer ≡ Ok (u, x)
IsAnswer t u (Err why) answer = (IsFailure answer why) × (u ≡ t)

-- what was made, unless the count of composed messages would be passed
unfoldable pub countable : Made → Result (PlainTerminal × List Tmesg) TermFault
countable made = if_countable made.0.sent made

-- what stands against a message that was sent in time
abbrev pub frame_fault : PlainTerminal → Hmesg → Option TermFault
frame_fault t m = first_of_checks (frame_checks t m)

-- an event that is done, unless the count of composed messages would be passed
unfoldable pub done : Made → Result (PlainTerminal × Acted) TermFault
done made = if_countable made.0.sent (made.0, Done made.1)

-- an event that is not done waits, or is dropped
abbrev pub not_done : Verdict → PlainTerminal → PlainTerminal × Acted
not_done Waits t = (t, Locked)
not_done (Refuses r) t = (record t { held = drop 1 t.held }, Refused r)

-- the call would compose more messages than can be counted
abbrev pub is_term_full : {A : Type 0} → Result A TermFault → Bool
is_term_full (Ok x) = false
is_term_full (Err FromTheFuture) = false
is_term_full (Err NoFile) = false
is_term_full (Err NotOpen) = false
is_term_full (Err AlreadyBound) = false
is_term_full (Err BadPosition) = false
is_term_full (Err TooLong) = false
is_term_full (Err LockNotHeld) = false
is_term_full (Err CountFull) = true
is_term_full (Err OutOfMemory) = false

-- an act that does or refuses something, or fails for its count
abbrev pub acts : Result (PlainTerminal × Acted) TermFault → Bool
acts (Ok (t, Idle)) = false
acts (Ok (t, Locked)) = false
acts (Ok (t, Done messages)) = true
acts (Ok (t, Refused why)) = true
acts (Err why) = true
