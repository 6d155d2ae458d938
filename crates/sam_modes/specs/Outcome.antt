-- What the program writes for an input of frames, and what stops it.
use Rattle.std.specs.Prelude.{◌≡◌, ℕ, List, [], ◌∷◌, Option, Some, None, IfSome, Result, Ok, Err}
use Rattle.std.specs.Io.KnownBytes.{Appends}
use Rattle.sam_mesg.specs.declared.tmesg.Tmesg.{Tmesg}
use Rattle.sam_mesg.specs.Faults.{mesg_fault_number}
use Rattle.sam_mesg.specs.declared.fault.MesgFault.{MesgFault}
use Rattle.sam_host.specs.Host.{PlainHost}
use Rattle.sam_host.specs.Faults.{host_fault_number}
use Rattle.sam_host.specs.declared.fault.HostFault.{HostFault}
use Rattle.sam_frame.specs.Direction.{terminal}
use Rattle.sam_frame.specs.Stream.{Splits, version_after}
use Rattle.sam_frame.specs.Splitting.{Ends}
use Rattle.sam_modes.specs.Serving.{serve}
use Rattle.sam_ends.specs.declared.stop.Stop.{Stop}
use Rattle.sam_ends.specs.declared.stop.Stop.TheVariants.{Frame}
use Rattle.sam_ends.specs.declared.stop.Stop.TheVariants.{Host}
use Rattle.sam_modes.specs.declared.fault.PlayFault.{PlayFault}
use Rattle.sam_modes.specs.declared.fault.PlayFault.TheVariants.{Script, Read, Write, Side, Threads, OutOfMemory}

-- what stops the program after the last message: the fault that the rest shows, or half a frame at the end of the input
abbrev pub stop_at : Option MesgFault → List ℕ → Option Stop
stop_at (Some fault) rest = Some (Frame (mesg_fault_number fault))
stop_at None [] = None
stop_at None (byte ∷ rest) = Some (Frame 4)

-- a refusal stops the program, whatever comes after its message; else the rest of the input decides
abbrev pub Stops : Result PlainHost HostFault → ℕ → List ℕ → Option Stop → Type 0
Stops (Err why) version rest stopped = stopped ≡ Some (Host (host_fault_number why))
Stops (Ok h) version rest stopped = (fault : Option MesgFault) × Ends terminal version rest fault × (stopped ≡ stop_at fault rest)

-- The input is the frames of messages and a rest; what is written is the frames of this host's answers to them, to the end or to
-- the first message that it refuses.
pub record Plays (h : PlainHost) (input written : List ℕ) (stopped : Option Stop) : Type 0 where
  pub messages : List Tmesg
  pub rest : List ℕ
  pub splits : Splits terminal 1 input messages rest
  pub output : written ≡ (serve h messages).written
  pub stops : Stops (serve h messages).end (version_after terminal 1 messages) rest stopped

-- for an input that the reader tells, and what a writer that tells its bytes took
abbrev pub Written : Option (List ℕ) → Option (List ℕ) → Option (List ℕ) → (List ℕ → List ℕ → Type 0) → Type 0
Written input before after P = IfSome input (λ bytes. (written : List ℕ) × Appends before after written × P bytes written)

-- a stop of the side
abbrev pub OnSide : PlayFault → (Stop → Type 0) → Type 0
OnSide (Side stop) P = P stop
OnSide (Script line) P = Unit {0}
OnSide Read P = Unit {0}
OnSide Write P = Unit {0}
OnSide Threads P = Unit {0}
OnSide OutOfMemory P = Unit {0}

-- a fault that bytes can come to: neither a script's nor the threads'
abbrev pub IsOfBytes : PlayFault → Type 0
IsOfBytes (Script line) = ⊥
IsOfBytes Threads = ⊥
IsOfBytes Read = Unit {0}
IsOfBytes Write = Unit {0}
IsOfBytes (Side stop) = Unit {0}
IsOfBytes OutOfMemory = Unit {0}
