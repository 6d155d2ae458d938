-- How lines are read, for the clauses of private functions; what a user must believe stands in Spelling and at the head of Events.
use Rattle.std.specs.Prelude.{◌≡◌, ◌<◌, ◌==◌, ◌&&◌, ℕ, Bool, List, [], ◌∷◌, ◌++◌, Option, Some, None, codes, length, nat_lt, nat_le, true}
use Rattle.std.specs.Prelude.{◌||◌, if◌then◌else◌, bytes_eq, chars}
use Rattle.sam_runes.specs.Texts.{max_runes, most_files, most_in_name}
use Rattle.sam_term.specs.declared.event.UserEvent.{UserEvent}
use Rattle.sam_script.specs.declared.line.Line.{Line}
use Rattle.sam_script.specs.declared.line.Line.TheVariants.{Key, Mouse, Add, Dirty, Act, Flush, Host, Term, Drain, Show}
use Rattle.sam_script.specs.declared.line.Said.{Said}
use Rattle.sam_script.specs.declared.line.Said.TheVariants as said
use Rattle.sam_script.specs.Script.{PlainScript}
use Rattle.sam_script.specs.Words.{◌>>=◌, word_of, behind_word, word_at, text_at, ended, tag_alone}
use Rattle.sam_script.specs.Events.{Reader, readers}
use Rattle.sam_script.specs.Spelling.{Says, file_said, lines_said}
use Rattle.sam_script.specs.declared.fault.LineFault.{LineFault}
use Rattle.sam_script.specs.declared.fault.LineFault.TheVariants.{Wrong, OutOfMemory}

-- by the first reader of this word
abbrev pub read_by : {X : Type 0} → List (List ℕ × Reader X) → List ℕ → Reader X
read_by [] word bytes = None
read_by (row ∷ rows) word bytes = if bytes_eq word row.0 then row.1 bytes else read_by rows word bytes

unfoldable pub event_at : List ℕ → Option UserEvent
event_at bytes = word_at bytes >>= λ x. read_by readers x.0 x.1

-- a file's name and text
abbrev pub fitting_name : List ℕ → Option (List ℕ)
fitting_name name = if nat_lt 0 (length name) && nat_le (length name) most_in_name then Some name else None

abbrev pub fitting_text : List ℕ → Option (List ℕ)
fitting_text text = if nat_le (length text) max_runes then Some text else None

unfoldable pub file_text_at : List ℕ → Option (List ℕ)
file_text_at bytes = text_at bytes >>= λ text. fitting_text text

unfoldable pub file_at : List ℕ → Option (List ℕ × List ℕ)
file_at bytes = word_at bytes >>= λ x. fitting_name (chars x.0) >>= λ name. file_text_at x.1 >>= λ text. Some (name, text)

abbrev pub bare : Line → Reader Said
bare line = ended (said.Line line)

abbrev pub bare_readers : List (List ℕ × Reader Said)
bare_readers =
    (codes "act", bare Act) ∷ (codes "flush", bare Flush) ∷ (codes "host", bare Host) ∷ (codes "term", bare Term)
    ∷ (codes "drain", bare Drain) ∷ (codes "show", bare Show) ∷ []

abbrev pub step_readers : List (List ℕ × Reader Said)
step_readers = (codes "dirty", λ bytes. tag_alone bytes >>= λ f. Some (said.Line (Dirty f))) ∷ bare_readers

abbrev pub line_readers : List (List ℕ × Reader Said)
line_readers =
    (codes "file", λ bytes. file_at bytes >>= λ x. Some (said.File x.0 x.1))
    ∷ (codes "add", λ bytes. file_at bytes >>= λ x. Some (said.Line (Add x.0 x.1)))
    ∷ (codes "k", λ bytes. event_at bytes >>= λ e. Some (said.Line (Key e)))
    ∷ (codes "m", λ bytes. event_at bytes >>= λ e. Some (said.Line (Mouse e))) ∷ step_readers

abbrev pub is_silent : List ℕ → Bool
is_silent [] = true
is_silent (b ∷ bytes) = b == 35 || b == 61

unfoldable pub line_at : List ℕ → Option Said
line_at bytes = if is_silent bytes then Some said.Nothing else read_by line_readers (word_of bytes) (behind_word bytes)

-- a line of bytes says nothing that is allowed
abbrev pub IsUnsaid : List ℕ → LineFault → Type 0
IsUnsaid bytes Wrong = (it : Said) → Says it bytes → ⊥
IsUnsaid bytes OutOfMemory = Unit {0}

-- a file may follow where no other line stands and there is room for one more
abbrev pub MayFollow : PlainScript → Said → Type 0
MayFollow script (said.File name text) = (script.lines ≡ []) × (length script.files < most_files)
MayFollow script (said.Line line) = Unit {0}
MayFollow script said.Nothing = Unit {0}

-- a script with what the line of this number says after it
abbrev pub with_said : ℕ → PlainScript → Said → PlainScript
with_said number script it = record { files = script.files ++ file_said it; lines = script.lines ++ lines_said number (it ∷ []) }

abbrev pub Adds : ℕ → List ℕ → PlainScript → PlainScript → Type 0
Adds number bytes old new = (it : Said) × Says it bytes × MayFollow old it × (new ≡ with_said number old it)

abbrev pub AddsNone : List ℕ → PlainScript → LineFault → Type 0
AddsNone bytes script Wrong = (it : Said) → Says it bytes → MayFollow script it → ⊥
AddsNone bytes script OutOfMemory = Unit {0}
