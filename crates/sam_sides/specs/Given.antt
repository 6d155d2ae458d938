-- The files that a host begins with.
use Rattle.std.specs.Prelude.{ℕ, ◌≤◌, ◌<◌, List, length}
use Rattle.sam_runes.specs.Texts.{max_runes, most_in_name}

-- a name of 1 to most_in_name runes, and a text that is not too long
abbrev pub IsFile : List ℕ × List ℕ → Type 0
IsFile file = (0 < length file.0) × (length file.0 ≤ most_in_name) × (length file.1 ≤ max_runes)
