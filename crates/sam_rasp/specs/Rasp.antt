-- Partial texts: lists whose members are a rune or a gap. Places in them move as the text changes.
use Rattle.std.specs.Prelude.{◌≡◌, ℕ, ◌+◌, ◌-◌, min, if◌then◌else◌, nat_lt, nat_le, List, [], ◌∷◌, ◌++◌, map, take, drop, length, Option, Some, None, ⊤, option_map, slice_get, reverse, Bool, true, false}
use Rattle.std.specs.List.{prefix_len}
use Rattle.sam_runes.specs.Texts.{ins, del, part}
use Rattle.sam_rasp.specs.declared.run.Run.{Run}

abbrev pub PartialText : Type 0
PartialText = List (Option ℕ)

-- the partial text has the text's length, and each rune of it stands in the text at that place
abbrev pub Agrees : PartialText → List ℕ → Type 0
Agrees [] [] = ⊤
Agrees [] (c ∷ t) = ⊥
Agrees (cell ∷ r) [] = ⊥
Agrees (None ∷ r) (c ∷ t) = Agrees r t
Agrees (Some d ∷ r) (c ∷ t) = (d ≡ c) × Agrees r t

-- members put in at p: gaps, or loaded runes
abbrev pub ins_cells : PartialText → ℕ → PartialText → PartialText
ins_cells r p cells = ins r p cells

-- what stands from p to q removed
abbrev pub del_cells : PartialText → ℕ → ℕ → PartialText
del_cells r p q = del r p q

-- the members given in the place of what stands from p to q
abbrev pub put_cells : PartialText → ℕ → ℕ → PartialText → PartialText
put_cells r p q cells = take p r ++ cells ++ drop q r

-- the runes s stored in the existing places from p on
abbrev pub load_cells : PartialText → ℕ → List ℕ → PartialText
load_cells r p s = take p r ++ map Some s ++ drop (p + length s) r

-- how many gaps stand at the front
abbrev pub gaps_in_front : PartialText → ℕ
gaps_in_front [] = 0
gaps_in_front (None ∷ r) = 1 + gaps_in_front r
gaps_in_front (Some c ∷ r) = 0

-- the first stretch of gaps, by its start and length
abbrev pub first_gaps : PartialText → Option (ℕ × ℕ)
first_gaps [] = None
first_gaps (None ∷ r) = Some (0, 1 + gaps_in_front r)
first_gaps (Some c ∷ r) = option_map (λ h. (1 + h.0, h.1)) (first_gaps r)

-- a stretch, by its start and length, as a range that begins n further on
abbrev pub range_from : ℕ → ℕ × ℕ → ℕ × ℕ
range_from n h = (n + h.0, n + h.0 + h.1)

-- the first stretch of gaps from p to q, cut to that range, by its start and its end
abbrev pub hole_within : PartialText → ℕ → ℕ → Option (ℕ × ℕ)
hole_within r p q = option_map (range_from p) (first_gaps (part r p q))

-- whether a member is a rune
abbrev pub has_rune : Option ℕ → Bool
has_rune None = false
has_rune (Some c) = true

-- whether a member is of that sort: a rune, or a gap
abbrev pub is_sort : Bool → Option ℕ → Bool
is_sort true cell = has_rune cell
is_sort false None = true
is_sort false (Some c) = false

-- how many members of that sort stand at once before the place p
abbrev pub sort_before : Bool → PartialText → ℕ → ℕ
sort_before b r p = prefix_len (is_sort b) (reverse (take p r))

-- how many members of that sort stand from the place p on
abbrev pub sort_from : Bool → PartialText → ℕ → ℕ
sort_from b r p = prefix_len (is_sort b) (drop p r)

-- the longest stretch of that sort round the place p
abbrev pub run_round : Bool → PartialText → ℕ → Run
run_round b r p = record { loaded = b; start = p - sort_before b r p; len = sort_before b r p + sort_from b r p }

-- the longest stretch of one sort round the place p, if a member stands there
abbrev pub run_of : PartialText → ℕ → Option Run
run_of r p = option_map (λ cell. run_round (has_rune cell) r p) (slice_get r p)

-- where a place goes as n members are put in at p: those above p move by n
abbrev pub place_after_ins : ℕ → ℕ → ℕ → ℕ
place_after_ins p n place = if nat_lt p place then place + n else place

-- where a place goes as what stands from p to q is removed: those from q on move by q - p, those between become p
abbrev pub place_after_del : ℕ → ℕ → ℕ → ℕ
place_after_del p q place = if nat_le q place then place - (q - p) else min place p
