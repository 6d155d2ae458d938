-- Scripts: files, and the lines that follow them.
use Rattle.std.specs.Prelude.{ℕ, List, [], ◌∷◌, flat_map, Option, Some, None}
use Rattle.sam_term.specs.declared.event.UserEvent.{UserEvent}
use Rattle.sam_script.specs.declared.line.Line.{Line}
use Rattle.sam_script.specs.declared.line.Line.TheVariants.{Key, Mouse, Add, Dirty, Act, Flush, Host, Term, Drain, Show}
use Rattle.sam_script.specs.declared.line.Numbered.{Numbered}

-- the names and texts of the host's files, and the other lines
pub record PlainScript : Type 0 where
  pub files : List (List ℕ × List ℕ)
  pub lines : List Numbered

-- the event that a line has for the keyboard, and that for the mouse
abbrev pub key_in : Line → Option UserEvent
key_in (Key event) = Some event
key_in (Mouse event) = None
key_in (Add name text) = None
key_in (Dirty f) = None
key_in Act = None
key_in Flush = None
key_in Host = None
key_in Term = None
key_in Drain = None
key_in Show = None

abbrev pub click_in : Line → Option UserEvent
click_in (Key event) = None
click_in (Mouse event) = Some event
click_in (Add name text) = None
click_in (Dirty f) = None
click_in Act = None
click_in Flush = None
click_in Host = None
click_in Term = None
click_in Drain = None
click_in Show = None

abbrev pub as_events : Option UserEvent → List UserEvent
as_events None = []
as_events (Some event) = event ∷ []

-- what the user does at the keyboard by a line
abbrev pub key_of : Numbered → List UserEvent
key_of numbered = as_events (key_in numbered.line)

abbrev pub keys_of : List Numbered → List UserEvent
keys_of = flat_map key_of

-- what the user does with the mouse by a line
abbrev pub mouse_of_line : Numbered → List UserEvent
mouse_of_line numbered = as_events (click_in numbered.line)

abbrev pub mouse_of : List Numbered → List UserEvent
mouse_of = flat_map mouse_of_line

-- the files, and no line
abbrev pub without_lines : PlainScript → PlainScript
without_lines script = record { files = script.files; lines = [] }
