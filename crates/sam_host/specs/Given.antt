-- The names and texts that a host is made with.
use Rattle.std.specs.Prelude.{ℕ, ◌≤◌, List, [], ◌∷◌, length}
use Rattle.sam_runes.specs.Texts.{RoomyText, most_in_name}

-- each name is within the limit
abbrev pub AreNames : List (List ℕ × RoomyText) → Type 0
AreNames [] = Unit {0}
AreNames (given ∷ more) = (length given.0 ≤ most_in_name) × AreNames more

-- the names and texts, without the rooms
abbrev pub given_of : List (List ℕ × RoomyText) → List (List ℕ × List ℕ)
given_of [] = []
given_of (given ∷ more) = (given.0, given.1.runes) ∷ given_of more
