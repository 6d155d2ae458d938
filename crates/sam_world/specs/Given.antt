-- The files that a world is made with.
use Rattle.std.specs.Prelude.{ℕ, ◌≤◌, List, [], ◌∷◌, length}
use Rattle.sam_runes.specs.Texts.{RoomyText, max_runes}
pub use Rattle.sam_sides.specs.Given.{IsFile}

-- each text is within the limit of texts
abbrev pub AreShort : List (List ℕ × RoomyText) → Type 0
AreShort [] = Unit {0}
AreShort (given ∷ more) = (length given.1.runes ≤ max_runes) × AreShort more
