-- When a connection is to be tried, and when it is to be given up. Times are in milliseconds.
use Rattle.std.specs.Prelude.{ℕ, ◌+◌, ◌-◌, List, [], ◌∷◌, min, max, slice_index, nat_lt, nat_le, Bool, true, false, not, ◌&&◌, ◌==◌, if◌then◌else◌, Option, None, Some, option_map, unwrap_or}
use Rattle.sam_link.specs.declared.hello.Refusal.{Refusal}
use Rattle.sam_link.specs.declared.hello.Refusal.TheVariants.{NotALink, OtherVersion, BadHello, NoSession, OtherSession, OldAttempt, WrongCount}
use Rattle.sam_line.specs.declared.clock.Clock.{Clock}
use Rattle.sam_line.specs.declared.clock.Deadline.{Deadline}
use Rattle.sam_line.specs.declared.clock.State.{State}
use Rattle.sam_line.specs.declared.clock.State.TheVariants.{Down, Connecting, Open, Late, Lost}
use Rattle.sam_line.specs.declared.clock.Tick.{Tick}
use Rattle.sam_line.specs.declared.clock.Tick.TheVariants.{Nothing, Connect, Drop, Ask}

-- ## Time

-- nothing has happened since this time
abbrev pub begun : ℕ → Clock
begun now =
    record {
      time = now;
      state = Down (record { since = now; within = 0 });
      quiet = now;
      failures = 0;
      opened = now;
      missing = None;
    }

-- the time goes on, and never back
abbrev pub at : Clock → ℕ → Clock
at c now = record c { time = max c.time now }

-- how much is left of it
abbrev pub left : Deadline → ℕ → ℕ
left d now = d.within - (now - d.since)

abbrev pub is_over : Option Deadline → ℕ → Bool
is_over None now = false
is_over (Some d) now = left d now == 0

-- what is waited for; None where nothing comes by time. An answer may be due
abbrev pub deadline_in : State → ℕ → Bool → Option Deadline
deadline_in (Down d) quiet due = Some d
deadline_in (Connecting d) quiet due = Some d
deadline_in Open quiet due = if due then Some (record { since = quiet; within = 15000 }) else None
deadline_in (Late d) quiet due = Some d
deadline_in (Lost why) quiet due = None

abbrev pub deadline : Clock → Bool → Option Deadline
deadline c due = deadline_in c.state c.quiet due

-- how long it is until the clock has something to say
abbrev pub due_in : Clock → Bool → ℕ → Option ℕ
due_in c due now = option_map (λ d. left d (max c.time now)) (deadline c due)

-- ## How it stands

-- a host has welcomed the newest connection, and it is not over
abbrev pub is_welcome : State → Bool
is_welcome (Down d) = false
is_welcome (Connecting d) = false
is_welcome Open = true
is_welcome (Late d) = true
is_welcome (Lost why) = false

-- such a connection is not late
abbrev pub is_open : State → Bool
is_open (Down d) = false
is_open (Connecting d) = false
is_open Open = true
is_open (Late d) = false
is_open (Lost why) = false

-- an open connection on which no answer is due is not silent: so silence counts from now on
abbrev pub quiet_from : Clock → Bool → ℕ
quiet_from c due = if is_open c.state && not due then c.time else c.quiet

-- for how long nothing has come, though something was due
abbrev pub silence : Clock → Bool → ℕ → ℕ
silence c due now = if is_open c.state && not due then 0 else max c.time now - c.quiet

-- ## A connection

-- one is being made
abbrev pub connecting : Clock → Clock
connecting c = record c { state = Connecting (record { since = c.time; within = 30000 }) }

-- the host has welcomed it
abbrev pub welcomed : Clock → Clock
welcomed c = record c { state = Open; quiet = c.time; opened = c.time; missing = None }

-- bytes have come on it
abbrev pub heard : Clock → Clock
heard c = record c { state = Open; quiet = c.time }

-- an answer becomes due
abbrev pub owed : Clock → Bool → Clock
owed c due = record c { quiet = quiet_from c due }

-- no answer has come
abbrev pub late : Clock → Clock
late c = record c { state = Late (record { since = c.time; within = 15000 }) }

-- ## It ends

abbrev pub pauses : List ℕ
pauses = 0 ∷ 1000 ∷ 2000 ∷ 4000 ∷ 8000 ∷ 16000 ∷ 30000 ∷ []

-- how long it is until the next connection is tried, after so many that failed before this one
abbrev pub pause : ℕ → ℕ
pause failures = slice_index pauses (min failures 6)

-- one that stood for a second or more is a new beginning
abbrev pub failures_before : Clock → ℕ
failures_before c = if is_welcome c.state && nat_le 1000 (c.time - c.opened) then 0 else c.failures

abbrev pub failed : Clock → Bool → Clock
failed c due =
    record c {
      state = Down (record { since = c.time; within = pause (failures_before c) });
      failures = min (failures_before c) 5 + 1;
      quiet = quiet_from c due;
    }

-- no connection comes any more
abbrev pub lost : Clock → Bool → Refusal → Clock
lost c due why = record c { state = Lost why; quiet = quiet_from c due }

-- since when no host finds the session
abbrev pub missing_since : Clock → ℕ
missing_since c = unwrap_or c.missing c.time

-- a session that was there may be found again, for a minute
abbrev pub may_come_back : Clock → Bool → Bool
may_come_back c known = known && nat_lt (c.time - missing_since c) 60000

-- such a refusal ends the line
abbrev pub is_final : Clock → Bool → Refusal → Bool
is_final c known NotALink = false
is_final c known OtherVersion = true
is_final c known BadHello = false
is_final c known NoSession = not (may_come_back c known)
is_final c known OtherSession = true
is_final c known OldAttempt = false
is_final c known WrongCount = true

abbrev pub missing_after : Clock → Refusal → Option ℕ
missing_after c NotALink = c.missing
missing_after c OtherVersion = c.missing
missing_after c BadHello = c.missing
missing_after c NoSession = Some (missing_since c)
missing_after c OtherSession = c.missing
missing_after c OldAttempt = c.missing
missing_after c WrongCount = c.missing

-- the host has refused the connection
abbrev pub refused : Clock → Bool → Bool → Refusal → Clock
refused c known due why =
    if is_final c known why then lost c due why else record (failed c due) { missing = missing_after c why }

-- ## An address of the machine came or went

-- it is over so soon, or sooner
abbrev pub sooner : Deadline → ℕ → ℕ → Deadline
sooner d now within = if nat_lt within (left d now) then record { since = now; within = within } else d

abbrev pub moved_in : State → ℕ → State
moved_in (Down d) now = Down (sooner d now 1000)
moved_in (Connecting d) now = Connecting d
moved_in Open now = Late (record { since = now; within = 2000 })
moved_in (Late d) now = Late (sooner d now 2000)
moved_in (Lost why) now = Lost why

abbrev pub moved : Clock → Bool → Clock
moved c due = record c { state = moved_in c.state c.time; quiet = quiet_from c due }

-- ## Ticks

abbrev pub says_in : State → Tick
says_in (Down d) = Connect
says_in (Connecting d) = Drop
says_in Open = Ask
says_in (Late d) = Drop
says_in (Lost why) = Nothing

-- what the clock says, now
abbrev pub says : Clock → Bool → Tick
says c due = if is_over (deadline c due) c.time then says_in c.state else Nothing

abbrev pub after : Clock → Bool → Tick → Clock
after c due Nothing = c
after c due Connect = connecting c
after c due Drop = failed c due
after c due Ask = late c
