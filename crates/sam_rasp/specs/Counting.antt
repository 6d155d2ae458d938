-- Words of this crate's private calls alone: sums of tallies, how far a count reaches, and what may come into rows.
use Rattle.std.specs.Prelude.{◌≡◌, ℕ, ◌+◌, ◌-◌, ◌^◌, ◌<◌, ◌≤◌, nat_le, if◌then◌else◌, [], ◌∷◌, length, map, Some, None}
use Rattle.sam_runes.specs.Texts.{max_runes, most_in_message}
use Rattle.sam_rasp.specs.Rasp.{PartialText}
use Rattle.sam_rasp.specs.Tallies.{taken, tally_of}
use Rattle.sam_rasp.specs.declared.section.Incoming.{Incoming}
use Rattle.sam_rasp.specs.declared.section.Incoming.TheVariants.{Runes, Gaps}
use Rattle.sam_rasp.specs.declared.tally.Measure.{Measure}
use Rattle.sam_rasp.specs.declared.tally.Measure.TheVariants.{Bytes, Units, Newlines}
use Rattle.sam_rasp.specs.declared.tally.Tally.{Tally}

abbrev pub plus : Tally → Tally → Tally
plus t u = record { gaps = t.gaps + u.gaps; bytes = t.bytes + u.bytes; units = t.units + u.units; newlines = t.newlines + u.newlines }

abbrev pub minus : Tally → Tally → Tally
minus t u = record { gaps = t.gaps - u.gaps; bytes = t.bytes - u.bytes; units = t.units - u.units; newlines = t.newlines - u.newlines }

-- no count of the first is above that of the second
abbrev pub IsWithin : Tally → Tally → Type 0
IsWithin t u = (t.gaps ≤ u.gaps) × (t.bytes ≤ u.bytes) × (t.units ≤ u.units) × (t.newlines ≤ u.newlines)

-- each count can be kept
abbrev pub Fits : Tally → Type 0
Fits t = (t.gaps < 2 ^ 32) × (t.bytes < 2 ^ 32) × (t.units < 2 ^ 32) × (t.newlines < 2 ^ 32)

-- one of the counts
abbrev pub count_of : Measure → Tally → ℕ
count_of Bytes t = t.bytes
count_of Units t = t.units
count_of Newlines t = t.newlines

-- how many of the first members take at most n, where a gap takes nothing
abbrev pub reached : Measure → PartialText → ℕ → ℕ
reached m [] n = 0
reached m (None ∷ r) n = 1 + reached m r n
reached m (Some c ∷ r) n = if nat_le (taken m c) n then 1 + reached m r (n - taken m c) else 0

-- what comes in is not empty; runes are at most most_in_message, with their tally, and gaps at most max_runes
abbrev pub CanComeIn : Incoming → Type 0
CanComeIn (Runes s tally) = (0 < length s.now) × (length s.now ≤ most_in_message) × (tally ≡ tally_of (map Some s.now))
CanComeIn (Gaps n) = (0 < n) × (n ≤ max_runes)
