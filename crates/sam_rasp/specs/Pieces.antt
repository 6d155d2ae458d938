-- Where the runes of a loaded section stand.
use Rattle.std.specs.Prelude.{◌≡◌, ℕ, ◌≤◌, List, length, map, take, vec_len, Some}
use Rattle.sam_runes.specs.Texts.{most_in_message}
use Rattle.sam_rasp.specs.Tallies.{tally_of}
use Rattle.sam_rasp.specs.declared.piece.Block.{Block}
use Rattle.sam_rasp.specs.declared.piece.Store.{Store}
use Rattle.sam_rasp.specs.declared.piece.Store.TheVariants.{Inside, Outside}

-- how many runes a piece holds without a block of memory
abbrev pub most_inside : ℕ
most_inside = 3

-- the runes that stand there
abbrev pub runes_of : Store → List ℕ
runes_of (Inside count runes) = take count runes
runes_of (Outside count block) = block.value.runes.items

-- it has at most most_in_message runes, and their tally
abbrev pub IsTallied : Block → Type 0
IsTallied block = (vec_len block.runes ≤ most_in_message) × (block.tally ≡ tally_of (map Some block.runes.items))

-- the count is how many runes there are, and within the limit
abbrev pub IsCounted : Store → Type 0
IsCounted (Inside count runes) = (count ≤ most_inside) × (length runes ≡ most_inside)
IsCounted (Outside count block) = (count ≡ vec_len block.value.runes) × IsTallied block.value
