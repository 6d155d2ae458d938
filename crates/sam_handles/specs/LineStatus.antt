-- The numbers by which C knows what came of a call of a line, and how it stands.
use Rattle.std.specs.Prelude.{ℕ, Result, Ok, Err}
use Rattle.sam_line.specs.declared.clock.State.{State}
use Rattle.sam_line.specs.declared.clock.State.TheVariants.{Down, Connecting, Open, Late, Lost}
use Rattle.sam_line.specs.declared.clock.Tick.{Tick}
use Rattle.sam_line.specs.declared.clock.Tick.TheVariants.{Nothing, Connect, Drop, Ask}
use Rattle.sam_line.specs.declared.fault.ReceiveFault.{ReceiveFault}
use Rattle.sam_line.specs.declared.fault.ReceiveFault.TheVariants.{Over, OutOfMemory, TooManyWords, TooManyAnswers, WrongHello, Refused, CountFull, WrongPacket, AckAhead}
use Rattle.sam_link.specs.declared.reading.PacketFault.TheVariants.{BadKind, BadLength}
use Rattle.sam_handles.specs.LinkStatus.{link_refusal, not_open}
use Rattle.sam_handles.specs.Status.{ok, no_memory, count_full}

-- what means the same for a link has the same number
abbrev pub receive_status : Result (Unit {0}) ReceiveFault → ℕ
receive_status (Ok done) = ok
receive_status (Err Over) = not_open
receive_status (Err OutOfMemory) = no_memory
receive_status (Err TooManyWords) = 207
receive_status (Err TooManyAnswers) = 208
receive_status (Err (WrongHello why)) = 209
receive_status (Err (Refused why)) = link_refusal why
receive_status (Err CountFull) = count_full
receive_status (Err (WrongPacket BadKind)) = 203
receive_status (Err (WrongPacket BadLength)) = 204
receive_status (Err AckAhead) = 205

abbrev pub tick_number : Tick → ℕ
tick_number Nothing = 0
tick_number Connect = 1
tick_number Drop = 2
tick_number Ask = 3

abbrev pub state_number : State → ℕ
state_number (Down d) = 0
state_number (Connecting d) = 1
state_number Open = 2
state_number (Late d) = 3
state_number (Lost why) = 4

-- why no connection comes any more
abbrev pub lost_status : State → ℕ
lost_status (Down d) = ok
lost_status (Connecting d) = ok
lost_status Open = ok
lost_status (Late d) = ok
lost_status (Lost why) = link_refusal why
