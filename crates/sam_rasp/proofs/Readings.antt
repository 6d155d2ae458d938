-- What a rasp reads off its sections.
use Rattle.sam_rasp.proofs.Common.{◌≡◌, ap, ◌∙◌, ℕ, zero, suc, ◌+◌, ◌-◌, ◌≤◌, ◌<◌, List, [], ◌∷◌, take, drop, length, min, arith, Bool, true, false, Option, Some, None, option_map, slice_get, take-append-drop, length-take, length-drop, drop-drop, drop-take, prefix_len, PartialText, has_rune, is_sort, first_gaps, gaps_in_front, hole_within, run_of, cells, size, is_loaded, Section}
use Rattle.sam_rasp.specs.Rasp.{run_round, sort_from}
use Rattle.sam_rasp.specs.declared.run.Run.{Run}
use Rattle.sam_rasp.proofs.SectionLaws.{length-cells}
use Rattle.sam_rasp.proofs.Changes.{length-del, length-ins, put-after, put-is}
use Rattle.sam_rasp.proofs.Runs.{get-left, get-past, sort-here}

-- the section x begins at the place a of r
pub read-part : (r : PartialText) (x : Section) (a p : ℕ) → a ≤ p → p < a + size x → take (size x) (drop a r) ≡ cells x → slice_get r p ≡ slice_get (cells x) (p - a)
read-part r x a p l h e = grind (
  arith,
  (length-cells x),
  (length-take (size x) (drop a r)),
  (length-drop a r),
  (length-take a r),
  (take-append-drop a r),
  (take-append-drop (size x) (drop a r)),
  (get-past (take a r) (drop a r) p (p - a)),
  (get-left (cells x) (drop (size x) (drop a r)) (p - a)),
)

-- what the section has from the place p on
pub rest_at : (r : PartialText) (x : Section) (a p : ℕ) → a ≤ p → p < a + size x → take (size x) (drop a r) ≡ cells x
    → (drop (p - a) (cells x) ≡ take (a + size x - p) (drop p r)) × (a + size x ≤ length r)
rest_at r x a p l h e = grind (
  arith,
  (length-cells x),
  (length-take (size x) (drop a r)),
  (length-drop a r),
  (drop-take (p - a) (a + size x - p) (drop a r)),
  (drop-drop (p - a) a r),
)

pub get-none : {X : Type 0} (xs : List X) (p : ℕ) → length xs ≤ p → slice_get xs p ≡ None
get-none (x ∷ xs) (suc p) l = get-none xs p (omega (arith, l))
get-none xs p l = grind arith

sort-of : (m : Option (Option ℕ)) (b : Bool) (f : Bool → Run) → option_map has_rune m ≡ Some b → option_map (λ cell. f (has_rune cell)) m ≡ Some (f b)
sort-of m b f e = grind arith

pub run-found : (r : PartialText) (x : Section) (a i : ℕ) → a ≤ i → i < a + size x → take (size x) (drop a r) ≡ cells x → run_of r i ≡ Some (run_round (is_loaded x) r i)
run-found r x a i l h e =
    sort-of (slice_get r i) (is_loaded x) (λ b. run_round b r i) (ap (option_map has_rune) (read-part r x a i l h e) ∙ sort-here x (i - a) (omega (arith, l, h)))

pub run-none : (r : PartialText) (i : ℕ) → length r ≤ i → run_of r i ≡ None
run-none r i l = ap (option_map (λ cell. run_round (has_rune cell) r i)) (get-none r i l)

gaps-taken : (n : ℕ) (u : PartialText) → gaps_in_front (take n u) ≡ min n (prefix_len (is_sort false) u)
gaps-taken zero u = omega arith
gaps-taken (suc n) [] = omega arith
gaps-taken (suc n) (None ∷ u) = omega (arith, gaps-taken n u)
gaps-taken (suc n) (Some c ∷ u) = omega arith

gaps-found : (u : PartialText) (n : ℕ) → prefix_len (is_sort true) u < n → n ≤ length u
    → first_gaps (take n u) ≡ Some (prefix_len (is_sort true) u, min (n - prefix_len (is_sort true) u) (prefix_len (is_sort false) (drop (prefix_len (is_sort true) u) u)))
gaps-found (None ∷ u) (suc n) l w = grind (arith, (gaps-taken n u))
gaps-found (Some c ∷ u) (suc n) l w = grind (arith, (gaps-found u n (omega (arith, l)) (omega (arith, w))))
gaps-found u n l w = grind arith

gaps-none : (u : PartialText) (n : ℕ) → n ≤ prefix_len (is_sort true) u → first_gaps (take n u) ≡ None
gaps-none (Some c ∷ u) (suc n) l = grind (arith, (gaps-none u n (omega (arith, l))))
gaps-none u n l = grind arith

pub hole-none : (r : PartialText) (p q : ℕ) → p ≤ q → q ≤ p + sort_from true r p → hole_within r p q ≡ None
hole-none r p q l e = grind (arith, (gaps-none (drop p r) (q - p)))

pub hole-found : (r : PartialText) (p q start end : ℕ) → q ≤ length r → start ≡ p + sort_from true r p → start < q → end ≡ start + sort_from false r start
    → hole_within r p q ≡ Some (start, min end q)
hole-found r p q start end w es l ee = grind (arith, (gaps-found (drop p r) (q - p)), (length-drop p r), (drop-drop (sort_from true r p) p r))

-- what `loaded` rests on
pub ruleset loaded_facts = (read-part, get-none, rest_at)

-- what `run_at` rests on
pub ruleset run_at_facts = (run-found, run-none)

-- what `first_hole` rests on
pub ruleset first_hole_facts = (hole-none, hole-found)

-- what `put` rests on
pub ruleset put_facts = (put-is, put-after, length-del, length-ins)

-- what `put_runes` rests on
pub ruleset pieces_facts = (length-ins)
