-- Which script a list of bytes spells.
use Rattle.std.specs.Prelude.{◌≡◌, ◌<◌, ◌≤◌, ◌+◌, ◌-◌, ◌^◌, ◌==◌, ◌⊎◌, ℕ, List, [], ◌∷◌, ◌++◌, codes, flat_map, length, take, true, false}
use Rattle.std.specs.Prelude.{encode_utf8}
use Rattle.std.specs.Fmt.{decimal}
use Rattle.std.specs.List.{AllByRecursion, AllZip, slice_split}
use Rattle.std.specs.Str.{IsUtf8, all_ascii_digits}
use Rattle.std.specs.Str.Parse.{digits_value}
use Rattle.sam_runes.specs.Texts.{most_files}
use Rattle.sam_term.specs.declared.event.UserEvent.{UserEvent}
use Rattle.sam_world.specs.Given.{IsFile}
use Rattle.sam_script.specs.Script.{PlainScript}
use Rattle.sam_script.specs.Show.{text_shown}
use Rattle.sam_script.specs.Events.{Part, Tag, form}
use Rattle.sam_script.specs.Events.Part.{Number, Rest}
use Rattle.sam_script.specs.declared.line.Line.{Line}
use Rattle.sam_script.specs.declared.line.Line.TheVariants.{Key, Mouse, Add, Dirty, Act, Flush, Host, Term, Drain, Show}
use Rattle.sam_script.specs.declared.line.Said.{Said}
use Rattle.sam_script.specs.declared.line.Said.TheVariants as said
use Rattle.sam_script.specs.declared.line.Numbered.{Numbered}
use Rattle.sam_script.specs.declared.fault.ScriptFault.{ScriptFault}
use Rattle.sam_script.specs.declared.fault.ScriptFault.TheVariants as fault

-- ## The spelling of an event

-- a part as it is printed, and a word with its parts
abbrev pub part_shown : Part → List ℕ
part_shown (Number bits n) = codes " " ++ decimal n
part_shown (Rest s) = codes " " ++ text_shown s

abbrev pub spelling : List ℕ × List Part → List ℕ
spelling words = words.0 ++ flat_map part_shown words.1

-- one or more ASCII digits, also with zeros in front, which write this number
abbrev pub IsNumber : List ℕ → ℕ → Type 0
IsNumber word n = (0 < length word) × (all_ascii_digits word ≡ true) × (digits_value 10 word ≡ n)

-- each part after one space; a text as it is shown, and an empty one may lack its space
abbrev pub SpellsParts : List Part → List ℕ → Type 0
SpellsParts [] bytes = bytes ≡ []
SpellsParts (Number bits n ∷ parts) bytes =
    (word : List ℕ) × (rest : List ℕ) × (bytes ≡ codes " " ++ word ++ rest) × IsNumber word n × (n < 2 ^ bits) × SpellsParts parts rest
SpellsParts (Rest s ∷ parts) bytes = ((bytes ≡ codes " " ++ text_shown s) ⊎ ((bytes ≡ []) × (s ≡ []))) × (parts ≡ [])

-- the word of an event and its parts
abbrev pub SpellsEvent : UserEvent → List ℕ → Type 0
SpellsEvent e bytes = (rest : List ℕ) × (bytes ≡ (form e).0 ++ rest) × SpellsParts (form e).1 rest

-- ## Lines

-- no byte is a space
abbrev pub IsWord : List ℕ → Type 0
IsWord word = AllByRecursion (λ b. (b == 32) ≡ false) word

-- `file ` or `add `, a name without spaces, and a text
abbrev pub SpellsFile : List ℕ → List ℕ → List ℕ → List ℕ → Type 0
SpellsFile word name text bytes =
    (rest : List ℕ) × (bytes ≡ word ++ flat_map encode_utf8 name ++ rest) × IsWord (flat_map encode_utf8 name)
    × IsFile (name, text) × SpellsParts (Rest text ∷ []) rest

-- what a line asks for, `file` lines left out
abbrev pub SpellsLine : Line → List ℕ → Type 0
SpellsLine (Key e) bytes = (event : List ℕ) × (bytes ≡ codes "k " ++ event) × SpellsEvent e event
SpellsLine (Mouse e) bytes = (event : List ℕ) × (bytes ≡ codes "m " ++ event) × SpellsEvent e event
SpellsLine (Add name text) bytes = SpellsFile (codes "add ") name text bytes
SpellsLine (Dirty f) bytes = (rest : List ℕ) × (bytes ≡ codes "dirty" ++ rest) × SpellsParts (Tag f ∷ []) rest
SpellsLine Act bytes = bytes ≡ codes "act"
SpellsLine Flush bytes = bytes ≡ codes "flush"
SpellsLine Host bytes = bytes ≡ codes "host"
SpellsLine Term bytes = bytes ≡ codes "term"
SpellsLine Drain bytes = bytes ≡ codes "drain"
SpellsLine Show bytes = bytes ≡ codes "show"

-- an empty line, a comment after `#`, or a line that was printed, after `=`
abbrev pub SaysNothing : List ℕ → Type 0
SaysNothing [] = Unit {0}
SaysNothing (byte ∷ bytes) = (byte ≡ 35) ⊎ (byte ≡ 61)

abbrev pub SaysSo : Said → List ℕ → Type 0
SaysSo said.Nothing bytes = SaysNothing bytes
SaysSo (said.File name text) bytes = SpellsFile (codes "file ") name text bytes
SaysSo (said.Line line) bytes = SpellsLine line bytes

-- a line of UTF-8 says this
abbrev pub Says : Said → List ℕ → Type 0
Says it bytes = IsUtf8 bytes × SaysSo it bytes

-- ## Scripts

-- the files that lines name
abbrev pub file_said : Said → List (List ℕ × List ℕ)
file_said (said.File name text) = (name, text) ∷ []
file_said (said.Line line) = []
file_said said.Nothing = []

abbrev pub files_said : List Said → List (List ℕ × List ℕ)
files_said = flat_map file_said

-- the other lines, with their numbers, where the first has this one
abbrev pub lines_said : ℕ → List Said → List Numbered
lines_said number [] = []
lines_said number (said.Line line ∷ more) = record { number = number; line = line } ∷ lines_said (number + 1) more
lines_said number (said.File name text ∷ more) = lines_said (number + 1) more
lines_said number (said.Nothing ∷ more) = lines_said (number + 1) more

-- no file is named after another line
abbrev pub AreFilesFirst : List Said → Type 0
AreFilesFirst [] = Unit {0}
AreFilesFirst (said.Line line ∷ more) = files_said more ≡ []
AreFilesFirst (said.File name text ∷ more) = AreFilesFirst more
AreFilesFirst (said.Nothing ∷ more) = AreFilesFirst more

-- lines spell a script: each says something, the files come first, and there are at most most_files
pub record SpellsLines (lines : List (List ℕ)) (script : PlainScript) : Type 0 where
  pub said : List Said
  pub each : AllZip Says said lines
  pub ordered : AreFilesFirst said
  pub files : script.files ≡ files_said said
  pub others : script.lines ≡ lines_said 1 said
  pub count : length (files_said said) ≤ most_files

-- bytes, parted at each newline
abbrev pub lines_of : List ℕ → List (List ℕ)
lines_of bytes = slice_split (λ b. b == 10) bytes

abbrev pub Spells : List ℕ → PlainScript → Type 0
Spells bytes script = SpellsLines (lines_of bytes) script

-- the first wrong line: those before it spell a script, and with it they spell none
abbrev pub IsWrongLine : List ℕ → ℕ → Type 0
IsWrongLine bytes number =
    (0 < number) × (number ≤ length (lines_of bytes)) × ((script : PlainScript) × SpellsLines (take (number - 1) (lines_of bytes)) script)
    × ((script : PlainScript) → SpellsLines (take number (lines_of bytes)) script → ⊥)

-- why the bytes were not read
abbrev pub IsReadFault : List ℕ → ScriptFault → Type 0
IsReadFault bytes (fault.Line number) = IsWrongLine bytes number
IsReadFault bytes fault.CountFull = ⊥
IsReadFault bytes fault.OutOfMemory = Unit {0}
