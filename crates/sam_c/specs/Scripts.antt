-- What the call that replays a script does.
use Rattle.std.specs.Prelude.{◌≡◌, ℕ, List, ◌++◌, length, take, drop, Result, Ok, Err}
use Rattle.sam_script.specs.Replay.{IsReplay, IsReplayFault}
use Rattle.sam_script.specs.declared.fault.ScriptFault.{ScriptFault}
use Rattle.sam_script.specs.declared.fault.ScriptFault.TheVariants as fault
use Rattle.sam_handles.specs.Status.{ok, no_memory}

-- why a script is not replayed
abbrev pub script_status : ScriptFault → ℕ
script_status (fault.Line line) = 161
script_status fault.CountFull = 162
script_status fault.OutOfMemory = no_memory

-- what a replay answers
abbrev pub replay_status : Result (List ℕ) ScriptFault → ℕ
replay_status (Ok printed) = ok
replay_status (Err why) = script_status why

-- what the call hands out: the buffer, how many bytes were printed, and the line of a fault
pub record Handed : Type 0 where
  pub buffer : List ℕ
  pub count : ℕ
  pub line : ℕ

abbrev pub handed : List ℕ → ℕ → ℕ → Handed
handed buffer count line = record { buffer = buffer; count = count; line = line }

-- what the replay of these bytes comes to: what it prints, or a fault
abbrev pub ComesTo : List ℕ → Result (List ℕ) ScriptFault → Type 0
ComesTo script (Ok printed) = IsReplay script printed
ComesTo script (Err why) = IsReplayFault script why

-- the first bytes stand in the buffer, as many as have room, and after them what stood there before
abbrev pub filled : List ℕ → List ℕ → List ℕ
filled bytes before = take (length before) bytes ++ drop (length bytes) before

-- the line of a fault that has one, or what stood there before
abbrev pub line_or : ℕ → ScriptFault → ℕ
line_or before (fault.Line line) = line
line_or before fault.CountFull = before
line_or before fault.OutOfMemory = before

-- what is handed out of it; all else is as it was
abbrev pub hands_out : Result (List ℕ) ScriptFault → Handed → Handed
hands_out (Ok printed) before = record before { buffer = filled printed before.buffer; count = length printed }
hands_out (Err why) before = record before { line = line_or before.line why }

-- the status is the number of what the replay comes to, and just that is handed out
pub record Replays (script : List ℕ) (status : ℕ) (before after : Handed) : Type 0 where
  pub result : Result (List ℕ) ScriptFault
  pub came : ComesTo script result
  pub number : status ≡ replay_status result
  pub out : after ≡ hands_out result before
