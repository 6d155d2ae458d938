-- A message and its bytes.
use Rattle.std.specs.Prelude.{◌≡◌, ℕ, ◌<◌, ◌≤◌, ◌^◌, List, [], ◌∷◌, ◌++◌, length, Bool, false, ◌==◌}
use Rattle.std.specs.List.{list_any}
use Rattle.sam_mesg.specs.Spelling.{two, four, eight}
use Rattle.sam_note.specs.declared.kind.NoteKind.{NoteKind}
use Rattle.sam_note.specs.Kinds.{Field, Request, Tag, Code, Number, Path, Copy, Text, among, fields, number}

pub record Message : Type 0 where
  pub kind : NoteKind
  pub request : ℕ
  pub tag : ℕ
  pub code : ℕ
  pub number : ℕ
  pub path : List ℕ
  pub copy : List ℕ
  pub text : List ℕ

-- so many bytes, and they
abbrev pub piece : List ℕ → List ℕ
piece bytes = two (length bytes) ++ bytes

abbrev pub field_bytes : Message → Field → List ℕ
field_bytes m Request = four m.request
field_bytes m Tag = two m.tag
field_bytes m Code = m.code ∷ []
field_bytes m Number = eight m.number
field_bytes m Path = piece m.path
field_bytes m Copy = piece m.copy
field_bytes m Text = piece m.text

-- the bytes of fields, joined
abbrev pub joined : Message → List Field → List ℕ
joined m [] = []
joined m (field ∷ others) = field_bytes m field ++ joined m others

-- the kind, and the fields that it has
abbrev pub spelled : Message → List ℕ
spelled m = number m.kind ∷ joined m (fields m.kind)

-- the field is 0, or empty
abbrev pub IsVacant : Message → Field → Type 0
IsVacant m Request = m.request ≡ 0
IsVacant m Tag = m.tag ≡ 0
IsVacant m Code = m.code ≡ 0
IsVacant m Number = m.number ≡ 0
IsVacant m Path = m.path ≡ []
IsVacant m Copy = m.copy ≡ []
IsVacant m Text = m.text ≡ []

-- what the kind has not is 0 or empty
unfoldable pub IsPlain : Message → Type 0
IsPlain m = (field : Field) → among field (fields m.kind) ≡ false → IsVacant m field

abbrev pub has_zero : List ℕ → Bool
has_zero bytes = list_any (λ b. b == 0) bytes

abbrev pub ArePaths : Message → Type 0
ArePaths m = (has_zero m.path ≡ false) × (has_zero m.copy ≡ false)

abbrev pub most_bytes : ℕ
most_bytes = 4096

-- The message has these bytes, if path, copy and text may be any bytes.
pub record Spells (m : Message) (bytes : List ℕ) : Type 0 where
  pub is_plain : IsPlain m
  pub request_fits : m.request < 2 ^ 32
  pub tag_fits : m.tag < 2 ^ 16
  pub code_fits : m.code < 2 ^ 8
  pub number_fits : m.number < 2 ^ 64
  pub bytes_are : spelled m ≡ bytes
  pub within : length bytes ≤ most_bytes
