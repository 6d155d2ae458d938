-- The fields of a message from left to right, each with whether it is there.
use Rattle.std.specs.Prelude.{◌≡◌, ℕ, ◌+◌, List, [], ◌∷◌, ◌++◌, length, take, drop, Bool, ◌&&◌, ◌||◌, ◌==◌, if◌then◌else◌}
use Rattle.sam_mesg.specs.Spelling.{two, four, eight}
use Rattle.sam_note.specs.declared.kind.Fields.{Fields}
use Rattle.sam_note.specs.declared.note.Head.{Head}
use Rattle.sam_note.specs.Kinds.{has, number}
use Rattle.sam_note.specs.Messages.{Message, piece}

-- the bytes of a field, if it is there
abbrev pub part : Bool → List ℕ → List ℕ
part there bytes = if there then bytes else []

-- a number of bytes, if they are there
abbrev pub wide : Bool → ℕ → ℕ
wide there bytes = if there then bytes else 0

-- how many bytes the kind, the numbers and the lengths take
unfoldable pub fixed : Fields → ℕ
fixed has =
    1 + wide has.request 4 + wide has.tag 2 + wide has.code 1 + wide has.number 8 + wide has.path 2 + wide has.copy 2 + wide has.text 2

-- the kind and the numbers
unfoldable pub head_bytes : Head → List ℕ
head_bytes head =
    number head.kind ∷ [] ++ part (has head.kind).request (four head.request) ++ part (has head.kind).tag (two head.tag)
    ++ part (has head.kind).code (head.code ∷ []) ++ part (has head.kind).number (eight head.number)

-- the message, if what its kind has not is empty
unfoldable pub note_bytes : Head → List ℕ → List ℕ → List ℕ → List ℕ
note_bytes head path copy text =
    head_bytes head ++ part (has head.kind).path (piece path) ++ part (has head.kind).copy (piece copy)
    ++ part (has head.kind).text (piece text)

-- what the kind has not is 0 or empty
unfoldable pub has_only : Fields → Message → Bool
has_only has m =
    (has.request || (m.request == 0)) && (has.tag || (m.tag == 0)) && (has.code || (m.code == 0)) && (has.number || (m.number == 0))
    && (has.path || (length m.path == 0)) && (has.copy || (length m.copy == 0)) && (has.text || (length m.text == 0))

-- Bytes were written from a place on, and end at another; what stands after them is as it was.
pub record Puts (at : ℕ) (bytes before : List ℕ) (end : ℕ) (after : List ℕ) : Type 0 where
  pub end_is : end ≡ at + length bytes
  pub front : take end after ≡ take at before ++ bytes
  pub behind : drop end after ≡ drop end before
  pub len : length after ≡ length before
