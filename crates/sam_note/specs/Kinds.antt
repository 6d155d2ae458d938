-- The kinds of messages: their numbers, and the fields of each.
use Rattle.std.specs.Prelude.{◌≡◌, ◌≢◌, ℕ, List, [], ◌∷◌, Bool, false, ◌||◌, ◌==◌, Option, Some, None}
use Rattle.sam_note.specs.declared.kind.Fields.{Fields}
use Rattle.sam_note.specs.declared.kind.NoteKind.{NoteKind}
use Rattle.sam_note.specs.declared.kind.NoteKind.TheVariants.{Open, Complete, Reload, Reloaded, Write, Session, Said, Shown, TakenOver, Ended, Opened, Refused, Names, Anew, Saved, NotSaved, Changed, Dated, Earlier, Aside, Lost, NoJournal}

-- the first byte of a message
abbrev pub number : NoteKind → ℕ
number Open = 1
number Complete = 2
number Reload = 3
number Reloaded = 4
number Write = 5
number Session = 65
number Said = 66
number Shown = 67
number TakenOver = 68
number Ended = 69
number Opened = 70
number Refused = 71
number Names = 72
number Anew = 73
number Saved = 74
number NotSaved = 75
number Changed = 76
number Dated = 77
number Earlier = 78
number Aside = 79
number Lost = 80
number NoJournal = 81

-- what a message may have
pub data Field : Type 0 where
  Request : Field
  Tag : Field
  Code : Field
  Number : Field
  Path : Field
  Copy : Field
  Text : Field

-- what the messages of a kind have, in the order of their bytes
abbrev pub fields : NoteKind → List Field
fields Open = Request ∷ Path ∷ []
fields Complete = Request ∷ Path ∷ []
fields Reload = Request ∷ Tag ∷ []
fields Reloaded = Tag ∷ Number ∷ []
fields Write = Request ∷ Tag ∷ []
fields Session = Number ∷ Path ∷ Text ∷ []
fields Said = Text ∷ []
fields Shown = Tag ∷ Number ∷ []
fields TakenOver = Text ∷ []
fields Ended = Code ∷ Number ∷ []
fields Opened = Request ∷ Tag ∷ []
fields Refused = Request ∷ Code ∷ Text ∷ []
fields Names = Request ∷ Code ∷ Path ∷ []
fields Anew = Request ∷ Number ∷ []
fields Saved = Request ∷ Tag ∷ Code ∷ Path ∷ Copy ∷ Text ∷ []
fields NotSaved = Request ∷ Tag ∷ Code ∷ Path ∷ Copy ∷ Text ∷ []
fields Changed = Tag ∷ Code ∷ Path ∷ Text ∷ []
fields Dated = Tag ∷ Number ∷ Path ∷ []
fields Earlier = Tag ∷ Code ∷ Number ∷ Path ∷ Copy ∷ Text ∷ []
fields Aside = Tag ∷ Code ∷ Path ∷ Copy ∷ Text ∷ []
fields Lost = Tag ∷ Code ∷ Path ∷ Text ∷ []
fields NoJournal = Code ∷ Text ∷ []

-- the kind of a number, or that there is none
abbrev pub IsKindOf : ℕ → Option NoteKind → Type 0
IsKindOf n (Some kind) = number kind ≡ n
IsKindOf n None = (kind : NoteKind) → number kind ≢ n

-- whether a field is among others: by its place among all
abbrev pub place : Field → ℕ
place Request = 0
place Tag = 1
place Code = 2
place Number = 3
place Path = 4
place Copy = 5
place Text = 6

abbrev pub among : Field → List Field → Bool
among field [] = false
among field (other ∷ others) = (place field == place other) || among field others

-- the same as the code has it
abbrev pub has : NoteKind → Fields
has kind = record {
  request = among Request (fields kind);
  tag = among Tag (fields kind);
  code = among Code (fields kind);
  number = among Number (fields kind);
  path = among Path (fields kind);
  copy = among Copy (fields kind);
  text = among Text (fields kind);
}
