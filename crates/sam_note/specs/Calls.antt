-- What reading and writing a message may answer.
use Rattle.std.specs.Prelude.{◌≡◌, ◌≢◌, ℕ, ◌+◌, ◌≤◌, List, [], ◌∷◌, ◌++◌, length, take, drop, min, Option, None, Some, Result, Ok, Err}
use Rattle.std.specs.Str.{IsUtf8}
use Rattle.sam_note.specs.declared.fault.NoteFault.{NoteFault}
use Rattle.sam_note.specs.declared.fault.NoteFault.TheVariants.{BadKind, BadField, BadLength, BadPath, BadText}
use Rattle.sam_note.specs.declared.kind.NoteKind.{NoteKind}
use Rattle.sam_note.specs.declared.note.Head.{Head}
use Rattle.sam_note.specs.declared.note.Note.{Note}
use Rattle.sam_note.specs.declared.note.Place.{Place}
use Rattle.sam_note.specs.Kinds.{number}
use Rattle.sam_note.specs.Messages.{Message, Spells, ArePaths, IsPlain, most_bytes, spelled}

-- the message of a head, two paths and a text
abbrev pub message : Head → List ℕ → List ℕ → List ℕ → Message
message head path copy text = record {
  kind = head.kind;
  request = head.request;
  tag = head.tag;
  code = head.code;
  number = head.number;
  path = path;
  copy = copy;
  text = text;
}

-- the bytes at a place
abbrev pub at_place : List ℕ → Place → List ℕ
at_place bytes place = take place.len (drop place.start bytes)

abbrev pub IsWithin : List ℕ → Place → Type 0
IsWithin bytes place = place.start + place.len ≤ length bytes

-- what was read of these bytes
abbrev pub message_in : List ℕ → Note → Message
message_in bytes note = message note.head (at_place bytes note.path) (at_place bytes note.copy) (at_place bytes note.text)

-- the first byte is the number of no kind
abbrev pub HasNoKind : List ℕ → Type 0
HasNoKind [] = ⊥
HasNoKind (first ∷ bytes) = (kind : NoteKind) → number kind ≢ first

-- where what was read stands
abbrev pub AreWithin : List ℕ → Note → Type 0
AreWithin bytes note = IsWithin bytes note.path × IsWithin bytes note.copy × IsWithin bytes note.text

-- what is read before path, copy and text are looked at
abbrev pub Shapes : List ℕ → Result Note NoteFault → Type 0
Shapes bytes (Ok note) = Spells (message_in bytes note) bytes × AreWithin bytes note
Shapes bytes (Err BadKind) = HasNoKind bytes
Shapes bytes (Err BadField) = ⊥
Shapes bytes (Err BadLength) = (HasNoKind bytes → ⊥) × ((m : Message) → Spells m bytes → ⊥)
Shapes bytes (Err BadPath) = ⊥
Shapes bytes (Err BadText) = ⊥

-- what reading may answer: the message that has these bytes, or the first fault that they show
abbrev pub Reads : List ℕ → Result Note NoteFault → Type 0
Reads bytes (Ok note) =
    Spells (message_in bytes note) bytes × ArePaths (message_in bytes note) × IsUtf8 (message_in bytes note).text
    × AreWithin bytes note
Reads bytes (Err BadKind) = HasNoKind bytes
Reads bytes (Err BadField) = ⊥
Reads bytes (Err BadLength) = (HasNoKind bytes → ⊥) × ((m : Message) → Spells m bytes → ⊥)
Reads bytes (Err BadPath) = (m : Message) × Spells m bytes × (ArePaths m → ⊥)
Reads bytes (Err BadText) = (m : Message) × Spells m bytes × ArePaths m × (IsUtf8 m.text → ⊥)

-- the message has no more bytes than it may have, nor than there is room for
unfoldable pub Fits : Message → ℕ → Type 0
Fits m room = length (spelled m) ≤ min most_bytes room

-- why the message is not written where there is so much room: the first fault that it has; or that it has none
abbrev pub Refuses : Message → ℕ → Option NoteFault → Type 0
Refuses m room None = IsPlain m × Fits m room × ArePaths m × IsUtf8 m.text
Refuses m room (Some BadKind) = ⊥
Refuses m room (Some BadField) = IsPlain m → ⊥
Refuses m room (Some BadLength) = IsPlain m × (Fits m room → ⊥)
Refuses m room (Some BadPath) = IsPlain m × Fits m room × (ArePaths m → ⊥)
Refuses m room (Some BadText) = IsPlain m × Fits m room × ArePaths m × (IsUtf8 m.text → ⊥)

-- what writing may answer, into a buffer with these bytes before and after: the message stands at the front, and behind it what stood
-- there; or a fault, and nothing has changed
abbrev pub Writes : Message → List ℕ → Result ℕ NoteFault → List ℕ → Type 0
Writes m before (Ok len) after =
    Refuses m (length before) None × (len ≡ length (spelled m)) × (after ≡ spelled m ++ drop len before)
Writes m before (Err fault) after = Refuses m (length before) (Some fault) × (after ≡ before)
