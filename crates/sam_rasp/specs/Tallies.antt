-- Tallies: what a text takes in bytes, code units and newlines. A gap counts as a gap, and takes nothing of these.
use Rattle.std.specs.Prelude.{ℕ, zero, suc, ◌+◌, ◌-◌, ◌==◌, nat_lt, nat_le, if◌then◌else◌, List, [], ◌∷◌, length, take, drop, reverse, Option, Some, None, option_map, encode_utf8}
use Rattle.sam_runes.specs.Texts.{newline}
use Rattle.sam_rasp.specs.Rasp.{PartialText}
use Rattle.sam_rasp.specs.Rows.{gaps_of}
use Rattle.sam_rasp.specs.declared.tally.Measure.{Measure}
use Rattle.sam_rasp.specs.declared.tally.Measure.TheVariants.{Bytes, Units, Newlines}
use Rattle.sam_rasp.specs.declared.tally.Tally.{Tally}

-- what one rune takes: bytes of UTF-8, code units of UTF-16, newlines
abbrev pub taken : Measure → ℕ → ℕ
taken Bytes c = length (encode_utf8 c)
taken Units c = if nat_lt c 65_536 then 1 else 2
taken Newlines c = if c == newline then 1 else 0

-- what a text takes
abbrev pub measure : Measure → List ℕ → ℕ
measure m [] = 0
measure m (c ∷ t) = taken m c + measure m t

-- the runes of a partial text, without its gaps
abbrev pub runes_in : PartialText → List ℕ
runes_in [] = []
runes_in (None ∷ r) = runes_in r
runes_in (Some c ∷ r) = c ∷ runes_in r

-- how many gaps a partial text has, and what its runes take
abbrev pub tally_of : PartialText → Tally
tally_of r = record {
  gaps = gaps_of r;
  bytes = measure Bytes (runes_in r);
  units = measure Units (runes_in r);
  newlines = measure Newlines (runes_in r);
}

-- ## From a count to a place

-- the runes up to the first gap
abbrev pub front_runes : PartialText → List ℕ
front_runes [] = []
front_runes (None ∷ r) = []
front_runes (Some c ∷ r) = c ∷ front_runes r

-- how many of the first runes take at most n; one that n would end inside of is not among them
abbrev pub fitting : Measure → List ℕ → ℕ → ℕ
fitting m [] n = 0
fitting m (c ∷ t) n = if nat_le (taken m c) n then 1 + fitting m t (n - taken m c) else 0

-- the place after the runes from p on that take at most n: a gap or the end is the last
abbrev pub place_after : PartialText → ℕ → Measure → ℕ → ℕ
place_after r p m n = p + fitting m (front_runes (drop p r)) n

-- ## Lines

-- the place after so many newlines, if there are so many
abbrev pub after_lines : ℕ → List ℕ → Option ℕ
after_lines zero t = Some 0
after_lines (suc n) [] = None
after_lines (suc n) (c ∷ t) = option_map suc (after_lines (if c == newline then n else suc n) t)

-- read backwards, how many members come before the newline behind which a line begins, so many lines on; all of them for the first line of
-- the text, if it is that one. There is none if a gap comes first, or if there are fewer lines
abbrev pub before_lines : ℕ → PartialText → Option ℕ
before_lines zero [] = Some 0
before_lines (suc n) [] = None
before_lines zero (None ∷ r) = None
before_lines (suc n) (None ∷ r) = None
before_lines zero (Some c ∷ r) = if c == newline then Some 0 else option_map suc (before_lines zero r)
before_lines (suc n) (Some c ∷ r) = option_map suc (before_lines (if c == newline then n else suc n) r)

-- the place that so many newlines from p on lead to
abbrev pub line_after : PartialText → ℕ → ℕ → Option ℕ
line_after r p n = option_map (λ k. p + k) (after_lines n (front_runes (drop p r)))

-- where the line begins that is so many lines before that of the place p
abbrev pub line_before : PartialText → ℕ → ℕ → Option ℕ
line_before r p n = if nat_le p (length r) then option_map (λ k. p - k) (before_lines n (reverse (take p r))) else None
