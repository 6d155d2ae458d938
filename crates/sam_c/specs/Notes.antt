-- What the calls of messages do.
use Rattle.std.specs.Prelude.{◌≡◌, ℕ, List, Option, Some, None, Result, Ok, Err}
use Rattle.sam_note.specs.Calls.{Reads, Writes, message}
use Rattle.sam_note.specs.Kinds.{IsKindOf, number}
use Rattle.sam_note.specs.declared.fault.NoteFault.{NoteFault}
use Rattle.sam_note.specs.declared.fault.NoteFault.TheVariants.{BadKind}
use Rattle.sam_note.specs.declared.kind.NoteKind.{NoteKind}
use Rattle.sam_note.specs.declared.note.Head.{Head}
use Rattle.sam_note.specs.declared.note.Note.{Note}
use Rattle.sam_handles.specs.NoteStatus.{fault_status}
use Rattle.sam_handles.specs.Status.{ok}
use Rattle.sam_c.specs.declared.note_calls.SamNote.{SamNote}

-- a message that was read, as C has it
abbrev pub told_note : Note → SamNote
told_note note = record {
  kind = number note.head.kind;
  code = note.head.code;
  tag = note.head.tag;
  request = note.head.request;
  number = note.head.number;
  path_at = note.path.start;
  path_len = note.path.len;
  copy_at = note.copy.start;
  copy_len = note.copy.len;
  text_at = note.text.start;
  text_len = note.text.len;
}

abbrev pub TellsNote : Result Note NoteFault → ℕ → SamNote → SamNote → Type 0
TellsNote (Ok note) status before after = (status ≡ ok) × (after ≡ told_note note)
TellsNote (Err why) status before after = (status ≡ fault_status why) × (after ≡ before)

abbrev pub NoteRead : List ℕ → ℕ → SamNote → SamNote → Type 0
NoteRead bytes status before after = (read : Result Note NoteFault) × Reads bytes read × TellsNote read status before after

-- the head of what C hands over, where its kind is this
abbrev pub head_of : NoteKind → SamNote → Head
head_of kind note = record { kind = kind; request = note.request; tag = note.tag; code = note.code; number = note.number }

abbrev pub TellsLength : Result ℕ NoteFault → ℕ → ℕ → ℕ → Type 0
TellsLength (Ok len) status before after = (status ≡ ok) × (after ≡ len)
TellsLength (Err why) status before after = (status ≡ fault_status why) × (after ≡ before)

-- the message is written, or not; or its number is that of no kind, and nothing has changed
abbrev pub WritesNote : Option NoteKind → SamNote → List ℕ → List ℕ → List ℕ → ℕ → List ℕ → List ℕ → ℕ → ℕ → Type 0
WritesNote None note path copy text status before after old new = (status ≡ fault_status BadKind) × (after ≡ before) × (new ≡ old)
WritesNote (Some kind) note path copy text status before after old new =
    (result : Result ℕ NoteFault) × Writes (message (head_of kind note) path copy text) before result after
    × TellsLength result status old new

abbrev pub NoteWritten : SamNote → List ℕ → List ℕ → List ℕ → ℕ → List ℕ → List ℕ → ℕ → ℕ → Type 0
NoteWritten note path copy text status before after old new =
    (kind : Option NoteKind) × IsKindOf note.kind kind × WritesNote kind note path copy text status before after old new
