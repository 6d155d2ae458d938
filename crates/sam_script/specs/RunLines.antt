-- The script that makes the events of a run happen again.
use Rattle.std.specs.Prelude.{◌≡◌, ◌<◌, ◌^◌, ◌+◌, ◌==◌, ℕ, false, List, [], ◌∷◌, ◌++◌, codes, flat_map, map, length, encode_utf8}
use Rattle.std.specs.List.{AllByRecursion}
use Rattle.sam_runes.specs.Reading.{AreRunes}
use Rattle.sam_world.specs.Given.{IsFile}
use Rattle.sam_crossing.specs.declared.event.Event.{Event}
use Rattle.sam_crossing.specs.declared.event.Event.TheVariants.{User, Add, Mark, Act, Flush, HostTake, TermTake}
use Rattle.sam_script.specs.Show.{text_shown}
use Rattle.sam_script.specs.Script.{PlainScript}
use Rattle.sam_script.specs.Spelling.{spelling}
use Rattle.sam_script.specs.Events.{Part, Tag, form}
use Rattle.sam_script.specs.Events.Part.{Number, Rest}
use Rattle.sam_script.specs.declared.line.Line.{Line}
use Rattle.sam_script.specs.declared.line.Line.TheVariants as line
use Rattle.sam_script.specs.declared.line.Numbered.{Numbered}

-- a word, and the name and the text of a file
abbrev pub named_line : List ℕ → List ℕ × List ℕ → List ℕ
named_line word file = word ++ flat_map encode_utf8 file.0 ++ codes " " ++ text_shown file.1 ++ codes "\n"

-- an event of the run
abbrev pub event_line : Event → List ℕ
event_line (User e) = codes "k " ++ spelling (form e) ++ codes "\n"
event_line (Add name text) = named_line (codes "add ") (name, text)
event_line (Mark f) = spelling (codes "dirty", Tag f ∷ []) ++ codes "\n"
event_line Act = codes "act\n"
event_line Flush = codes "flush\n"
event_line HostTake = codes "host\n"
event_line TermTake = codes "term\n"

-- a file that the run begins with
abbrev pub file_line : List ℕ × List ℕ → List ℕ
file_line file = named_line (codes "file ") file

-- the files, the events, and a line that shows the world after them
abbrev pub run_lines_of : List (List ℕ × List ℕ) → List Event → List ℕ
run_lines_of files events = flat_map file_line files ++ flat_map event_line events ++ codes "show\n"

-- ## What is read of it again

-- what a line of the run asks for
abbrev pub line_of : Event → Line
line_of (User e) = line.Key e
line_of (Add name text) = line.Add name text
line_of (Mark f) = line.Dirty f
line_of Act = line.Act
line_of Flush = line.Flush
line_of HostTake = line.Host
line_of TermTake = line.Term

-- lines with their numbers, where the first has this one
abbrev pub numbered_from : ℕ → List Line → List Numbered
numbered_from n [] = []
numbered_from n (asked ∷ more) = record { number = n; line = asked } ∷ numbered_from (n + 1) more

-- the files, then a line for each event, and then the last `show`
abbrev pub run_script : List (List ℕ × List ℕ) → List Event → PlainScript
run_script files events = record { files = files; lines = numbered_from (1 + length files) (map line_of events ++ line.Show ∷ []) }

-- a file that a script can name: within the limits, of runes, and its name has neither space nor newline
abbrev pub CanBeNamed : List ℕ × List ℕ → Type 0
CanBeNamed file =
    IsFile file × AreRunes file.0 × AreRunes file.1 × AllByRecursion (λ c. ((c == 32) ≡ false) × ((c == 10) ≡ false)) file.0

-- a number fits its bits, and a text is one of runes
abbrev pub IsFitting : Part → Type 0
IsFitting (Number bits n) = n < 2 ^ bits
IsFitting (Rest s) = AreRunes s

abbrev pub CanBeWritten : Event → Type 0
CanBeWritten (User e) = AllByRecursion IsFitting (form e).1
CanBeWritten (Add name text) = CanBeNamed (name, text)
CanBeWritten (Mark f) = f < 2 ^ 16
CanBeWritten Act = Unit {0}
CanBeWritten Flush = Unit {0}
CanBeWritten HostTake = Unit {0}
CanBeWritten TermTake = Unit {0}
