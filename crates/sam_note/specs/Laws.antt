-- What reading and writing have to do with each other.
use Rattle.std.specs.Prelude.{◌≡◌, ℕ, ◌<◌, ◌≤◌, ◌^◌, List, length, take, Result, Ok}
use Rattle.sam_note.specs.declared.fault.NoteFault.{NoteFault}
use Rattle.sam_note.specs.declared.note.Note.{Note}
use Rattle.sam_note.specs.Calls.{Reads, Writes, message_in}
use Rattle.sam_note.specs.Messages.{Message}

-- its numbers fit their bytes
abbrev pub IsMessage : Message → Type 0
IsMessage m = (m.request < 2 ^ 32) × (m.tag < 2 ^ 16) × (m.code < 2 ^ 8) × (m.number < 2 ^ 64)

-- of a message that was written, whatever reading answers to its bytes is that message
abbrev pub WrittenIsRead : Type 0
WrittenIsRead =
    (m : Message) (before after : List ℕ) (len : ℕ) (read : Result Note NoteFault) → IsMessage m → Writes m before (Ok len) after
    → Reads (take len after) read → (note : Note) × (read ≡ Ok note) × (message_in (take len after) note ≡ m)

-- of a message that was read, whatever writing answers where there is room is that its bytes are written
abbrev pub ReadIsWritten : Type 0
ReadIsWritten =
    (bytes before after : List ℕ) (note : Note) (result : Result ℕ NoteFault) → Reads bytes (Ok note) → length bytes ≤ length before
    → Writes (message_in bytes note) before result after → (result ≡ Ok (length bytes)) × (take (length bytes) after ≡ bytes)
