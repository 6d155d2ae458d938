-- Words of this crate's private calls alone: what rows keep, and what comes into them.
use Rattle.std.specs.Prelude.{ℕ, ◌+◌, ◌<◌, List, [], ◌∷◌, map, replicate, length, Some, None, ⊤}
use Rattle.std.specs.List.{flat_map}
use Rattle.sam_runes.specs.Texts.{max_runes}
use Rattle.sam_rasp.specs.Rasp.{PartialText}
use Rattle.sam_rasp.specs.declared.section.Incoming.{Incoming}
use Rattle.sam_rasp.specs.declared.section.Incoming.TheVariants.{Runes, Gaps}

-- what the parts stand for together
abbrev pub members_of : {P : Type 0} → (P → PartialText) → List P → PartialText
members_of f xs = flat_map f xs

-- each part stands for something
abbrev pub NoneEmpty : {P : Type 0} → (P → PartialText) → List P → Type 0
NoneEmpty f [] = ⊤
NoneEmpty f (x ∷ xs) = (0 < length (f x)) × NoneEmpty f xs

-- how many runes and gaps a rasp has at most while runes take the place of others: those come in before these go
abbrev pub most_kept : ℕ
most_kept = max_runes + max_runes

-- how many gaps the partial text has
abbrev pub gaps_of : PartialText → ℕ
gaps_of [] = 0
gaps_of (None ∷ r) = 1 + gaps_of r
gaps_of (Some c ∷ r) = gaps_of r

-- what stands for what comes in
abbrev pub incoming_cells : Incoming → PartialText
incoming_cells (Runes s tally) = map Some s.now
incoming_cells (Gaps n) = replicate n None
