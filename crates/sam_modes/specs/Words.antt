-- The program's command line, as clap reads it.
use Rattle.std.specs.Prelude.{◌≡◌, ◌≤◌, ◌<◌, ℕ, Bool, true, false, List, [], ◌∷◌, ◌++◌, length, Option, Some, None, codes, if◌then◌else◌}
use Rattle.std.specs.Str.{bytes_eq, encode_utf8_all}
use Rattle.std.specs.Str.Parse.{IsNumeral, digits_value}
use Rattle.sam_runes.specs.Texts.{max_runes}
use Rattle.clap.specs.Words.{App, Row, Rule, Text, first_of, new_app, new_rule, subcommand_of, with_rule, with_subcommand}
use Rattle.clap.specs.Simple.{on_top}
use Rattle.sam_modes.specs.declared.words.Mode.{Mode}
use Rattle.sam_modes.specs.declared.words.Mode.TheVariants.{Bytes, Replay, Threads}
use Rattle.sam_modes.specs.Limits.{most_piece, most_capacity}

-- an option `--name` that takes one value, or else this one
abbrev pub option_of : Text → Text → Rule
option_of name default = record (new_rule name) { long = Some name; defaults = default ∷ [] }

-- the program's own words: `--version`, or a mode
abbrev pub bare_program : App
bare_program = on_top (λ shape. record shape { has_version = true }) (new_app (codes "sam_play"))

-- the modes: `bytes [--text TEXT]`, `replay`, and `threads [--piece N] [--cap N]`
abbrev pub bytes_app : App
bytes_app = with_rule (new_app (codes "bytes")) (option_of (codes "text") [])

abbrev pub replay_app : App
replay_app = new_app (codes "replay")

abbrev pub threads_app : App
threads_app =
    with_rule (with_rule (new_app (codes "threads")) (option_of (codes "piece") (codes "64"))) (option_of (codes "cap") (codes "16"))

abbrev pub program : App
program = with_subcommand (with_subcommand (with_subcommand bare_program bytes_app.top) replay_app.top) threads_app.top

-- `--text TEXT` as the one word `--text=TEXT`, so that TEXT is taken as it stands; `waits` says that
-- the word before was `--text`
abbrev pub attached_from : Bool → List Text → List Text
attached_from true [] = codes "--text" ∷ []
attached_from false [] = []
attached_from true (word ∷ words) = (codes "--text=" ++ word) ∷ attached_from false words
attached_from false (word ∷ words) =
    if bytes_eq word (codes "--text") then attached_from true words
    else word ∷ attached_from false words

-- the same, after the program's name
abbrev pub attached : List Text → List Text
attached [] = []
attached (name ∷ words) = name ∷ attached_from false words

-- the option's value is this number from 1 to most, in decimal digits alone
abbrev pub HoldsNumber : Option Text → ℕ → ℕ → Type 0
HoldsNumber value most n =
    (digits : Text) × (value ≡ Some digits) × IsNumeral 10 digits × (n ≡ digits_value 10 digits) × (0 < n) × (n ≤ most)

-- the mode is what the subcommand's matches say
abbrev pub HoldsMode : Option (Text × List Row) → Mode → Type 0
HoldsMode None mode = ⊥
HoldsMode (Some p) (Bytes text) =
    (p.0 ≡ codes "bytes") × (first_of (codes "text") p.1 ≡ Some (encode_utf8_all text)) × (length text ≤ max_runes)
HoldsMode (Some p) Replay = p.0 ≡ codes "replay"
HoldsMode (Some p) (Threads piece capacity) =
    (p.0 ≡ codes "threads")
    × HoldsNumber (first_of (codes "piece") p.1) most_piece piece × HoldsNumber (first_of (codes "cap") p.1) most_capacity capacity

-- the mode holds the values of clap's matches of the words
abbrev pub IsModeOf : List Text → Mode → Type 0
IsModeOf words mode = HoldsMode (subcommand_of program (attached words)) mode

-- what holds of the text of mode `bytes`
abbrev pub OnBytes : Mode → (List ℕ → Type 0) → Type 0
OnBytes (Bytes text) P = P text
OnBytes Replay P = Unit {0}
OnBytes (Threads piece capacity) P = Unit {0}

-- what holds of mode `replay`
abbrev pub OnReplay : Mode → Type 0 → Type 0
OnReplay Replay P = P
OnReplay (Bytes text) P = Unit {0}
OnReplay (Threads piece capacity) P = Unit {0}

-- what holds of the numbers of mode `threads`
abbrev pub OnThreads : Mode → (ℕ → ℕ → Type 0) → Type 0
OnThreads (Threads piece capacity) P = P piece capacity
OnThreads Replay P = Unit {0}
OnThreads (Bytes text) P = Unit {0}
