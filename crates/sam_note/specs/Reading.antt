-- Reading fields from left to right: what the functions of src/reading.rt take from bytes, and what is behind it.
use Rattle.std.specs.Prelude.{ℕ, List, [], length, take, drop, Bool, Option, Some, None, nat_lt, ◌==◌, if◌then◌else◌, option_and_then, option_map}
use Rattle.std.specs.Int.{w8, w16, w32, w64}
use Rattle.sam_mesg.specs.Reading.{number_at}
use Rattle.sam_note.specs.declared.kind.Fields.{Fields}
use Rattle.sam_note.specs.declared.kind.NoteKind.{NoteKind}
use Rattle.sam_note.specs.Kinds.{has}
use Rattle.sam_note.specs.Messages.{Message}

-- what is read, if it is there
unfoldable pub if_there : {A : Type 0} → Bool → A → (List ℕ → Option (A × List ℕ)) → List ℕ → Option (A × List ℕ)
if_there there none read bytes = if there then read bytes else Some (none, bytes)

-- so many bytes
unfoldable pub counted_at : ℕ × List ℕ → Option (List ℕ × List ℕ)
counted_at a = if nat_lt (length a.1) a.0 then None else Some (take a.0 a.1, drop a.0 a.1)

-- a path or a text
abbrev pub piece_at : List ℕ → Option (List ℕ × List ℕ)
piece_at bytes = option_and_then counted_at (number_at w16 bytes)

-- one after the other
abbrev pub then_at : {A B : Type 0} → (List ℕ → Option (A × List ℕ)) → (List ℕ → Option (B × List ℕ)) → List ℕ → Option ((A × B) × List ℕ)
then_at first second bytes = option_and_then (λ a. option_map (λ b. ((a.0, b.0), b.1)) (second a.1)) (first bytes)

abbrev pub numbers_at : Fields → List ℕ → Option ((ℕ × (ℕ × (ℕ × ℕ))) × List ℕ)
numbers_at has =
    then_at (if_there has.request 0 (number_at w32)) (then_at (if_there has.tag 0 (number_at w16))
    (then_at (if_there has.code 0 (number_at w8)) (if_there has.number 0 (number_at w64))))

abbrev pub pieces_at : Fields → List ℕ → Option ((List ℕ × (List ℕ × List ℕ)) × List ℕ)
pieces_at has = then_at (if_there has.path [] piece_at) (then_at (if_there has.copy [] piece_at) (if_there has.text [] piece_at))

-- all of the bytes
abbrev pub ended : {A : Type 0} → A × List ℕ → Option A
ended a = if length a.1 == 0 then Some a.0 else None

abbrev pub made : NoteKind → (ℕ × (ℕ × (ℕ × ℕ))) × (List ℕ × (List ℕ × List ℕ)) → Message
made kind x = record {
  kind = kind;
  request = x.0.0;
  tag = x.0.1.0;
  code = x.0.1.1.0;
  number = x.0.1.1.1;
  path = x.1.0;
  copy = x.1.1.0;
  text = x.1.1.1;
}

-- the message whose bytes after the kind these are
abbrev pub message_at : NoteKind → List ℕ → Option Message
message_at kind bytes = option_map (made kind) (option_and_then ended (then_at (numbers_at (has kind)) (pieces_at (has kind)) bytes))
