-- What the program writes of a script that its input spells, and what stops it.
use Rattle.std.specs.Prelude.{◌≡◌, ◌≤◌, ℕ, List, length}
use Rattle.sam_script.specs.Replay as replay
use Rattle.sam_script.specs.Spelling.{IsWrongLine}
use Rattle.sam_script.specs.declared.fault.ScriptFault.{ScriptFault}
use Rattle.sam_script.specs.declared.fault.ScriptFault.TheVariants as fault
use Rattle.sam_ends.specs.declared.stop.Stop.TheVariants.{Host}
use Rattle.sam_modes.specs.declared.fault.PlayFault.{PlayFault}
use Rattle.sam_modes.specs.declared.fault.PlayFault.TheVariants.{Script, Read, Write, Side, Threads, OutOfMemory}
use Rattle.sam_modes.specs.Limits.{most_input}

-- what a fault of a script is for the program
abbrev pub of_script : ScriptFault → PlayFault
of_script (fault.Line line) = Script line
of_script fault.CountFull = Side (Host 6)
of_script fault.OutOfMemory = OutOfMemory

-- the input has at most 16,777,216 bytes
abbrev pub IsShort : List ℕ → Type 0
IsShort input = length input ≤ most_input

-- what is written is what the script that the input spells prints, replayed to its end
abbrev pub IsReplay : List ℕ → List ℕ → Type 0
IsReplay input written = IsShort input × replay.IsReplay input written

-- Which fault comes where: that of the script's bytes, where a full count is a side's stop. An input that is too long comes to neither.
-- That a read or a write failed, or that memory was short, no bytes can tell
abbrev pub IsReplayFault : List ℕ → PlayFault → Type 0
IsReplayFault input (Script line) = IsShort input × replay.IsReplayFault input (fault.Line line)
IsReplayFault input (Side stop) = (stop ≡ Host 6) × IsShort input × replay.IsReplayFault input fault.CountFull
IsReplayFault input Threads = ⊥
IsReplayFault input Read = Unit {0}
IsReplayFault input Write = Unit {0}
IsReplayFault input OutOfMemory = Unit {0}

-- Why an input is not read as a script. That a read failed, or that memory was short, no bytes can tell
abbrev pub IsUnread : List ℕ → PlayFault → Type 0
IsUnread input (Script line) = IsShort input × IsWrongLine input line
IsUnread input (Side stop) = ⊥
IsUnread input Threads = ⊥
IsUnread input Write = ⊥
IsUnread input Read = Unit {0}
IsUnread input OutOfMemory = Unit {0}
