-- The lines that a run shows.
use Rattle.std.specs.Prelude.{◌==◌, ◌+◌, ℕ, Bool, List, [], ◌∷◌, ◌++◌, Option, Some, None, codes, flat_map, encode_utf8, if◌then◌else◌, min}
use Rattle.std.specs.Prelude.{length}
use Rattle.std.specs.Fmt.{decimal}
use Rattle.sam_runes.specs.Slots.{Slots}
use Rattle.sam_text.specs.Files.{PlainFile}
use Rattle.sam_term.specs.Sound.{unsent_length}
use Rattle.sam_term.specs.declared.records.Window.{Window}
use Rattle.sam_term.specs.declared.records.KnownFile.{KnownFile}
use Rattle.sam_crossing.specs.World.{PlainWorld}

-- a rune of a text, with backslash and newline escaped
abbrev pub text_rune : ℕ → List ℕ
text_rune rune =
    if rune == 92 then codes "\\\\" else if rune == 10 then codes "\\n" else encode_utf8 rune

abbrev pub text_shown : List ℕ → List ℕ
text_shown = flat_map text_rune

-- a name: spaces too
abbrev pub name_rune : ℕ → List ℕ
name_rune rune = if rune == 32 then codes "\\s" else text_rune rune

abbrev pub name_shown : List ℕ → List ℕ
name_shown [] = codes "\\e"
name_shown (rune ∷ runes) = flat_map name_rune (rune ∷ runes)

-- a rasp: gaps too
abbrev pub place_shown : Option ℕ → List ℕ
place_shown None = codes "\\_"
place_shown (Some rune) = text_rune rune

abbrev pub rasp_shown : List (Option ℕ) → List ℕ
rasp_shown = flat_map place_shown

-- a file of the host
abbrev pub host_line : ℕ → Bool → Bool → List ℕ → List ℕ → List ℕ
host_line tag is_open is_dirty name text =
    codes "= h " ++ decimal tag ++ codes " " ++ (if is_open then codes "o " else codes "- ")
    ++ (if is_dirty then codes "d " else codes "c ") ++ name_shown name
    ++ codes " |" ++ text_shown text ++ codes "|\n"

-- a file that is open at the terminal
abbrev pub term_line : ℕ → ℕ → ℕ → ℕ → List (Option ℕ) → List ℕ
term_line tag locks start end rasp =
    codes "= t " ++ decimal tag ++ codes " " ++ decimal locks ++ codes " " ++ decimal start
    ++ codes " " ++ decimal end ++ codes " |" ++ rasp_shown rasp ++ codes "|\n"

-- a file of the host, if the tag has one
abbrev pub host_slot : ℕ → Option PlainFile → List ℕ
host_slot tag None = []
host_slot tag (Some file) = host_line tag file.opened file.dirty file.name file.text

-- a file that is open at the terminal
abbrev pub window_line : ℕ → Option Window → List ℕ
window_line tag None = []
window_line tag (Some window) = term_line tag window.locks window.dot.0 window.dot.1 window.rasp

abbrev pub term_slot : ℕ → Option KnownFile → List ℕ
term_slot tag None = []
term_slot tag (Some known) = window_line tag known.window

-- the lines of what tags hold, the tags ascending from this one
abbrev pub slot_lines : {X : Type 0} → (ℕ → Option X → List ℕ) → ℕ → Slots X → List ℕ
slot_lines line tag [] = []
slot_lines line tag (slot ∷ slots) = line tag slot ++ slot_lines line (1 + tag) slots

-- how many there are; the greatest number of 64 bits where there are more
abbrev pub counted : {X : Type 0} → List X → ℕ
counted xs = min (length xs) 18446744073709551615

abbrev pub lock_shown : Bool → List ℕ
lock_shown held = if held then codes "1 " else codes "0 "

-- the last line: the command lock, the messages sent and taken, the runes that are not sent, and what is under way up and down
abbrev pub counts_line : Bool → ℕ → ℕ → ℕ → ℕ → ℕ → List ℕ
counts_line locked sent taken unsent up down =
    codes "= s " ++ lock_shown locked ++ decimal sent ++ codes " " ++ decimal taken ++ codes " " ++ decimal unsent
    ++ codes " " ++ decimal up ++ codes " " ++ decimal down ++ codes "\n"

abbrev pub state_line : PlainWorld → List ℕ
state_line w =
    counts_line w.term.command_lock w.term.sent w.host.taken (unsent_length w.term.unsent) (counted w.up) (counted w.down)

-- the host's files, the files that are open at the terminal, and the last line
abbrev pub show_lines : PlainWorld → List ℕ
show_lines w = slot_lines host_slot 0 w.host.files.slots ++ slot_lines term_slot 0 w.term.files ++ state_line w
