-- What is shown of one slot or section more.
use Rattle.sam_script.proofs.Common.{◌≡◌, refl, ap, ◌<◌, ◌+◌, ℕ, suc, List, [], ◌∷◌, ◌++◌, length, map, take, Option, Some, None, slice_index_or, arith, append-nil, append_assoc, slot_lines, rasp_shown, text_shown, text_rune}
use Rattle.std.proofs.Common.{drop, replicate, ◌-◌, ◌≤◌, take-take, take-append-drop}
use Rattle.std.proofs.lemmas.List.{drop-map, drop-replicate, drop-take, take_rest}
use Rattle.std.proofs.lemmas.List.Concat.{flat_map-append}
use Rattle.sam_runes.specs.Slots.{Slots, slot}
use Rattle.sam_rasp.specs.Rasp.{PartialText}
use Rattle.sam_rasp.specs.Sections.{cells, size}
use Rattle.sam_rasp.specs.declared.section.Section.{Section}
use Rattle.sam_rasp.proofs.Readings.{rest_at}
use Rattle.sam_script.specs.Show.{place_shown}

pub shown_loaded : (s : List ℕ) → rasp_shown (map Some s) ≡ text_shown s
shown_loaded [] = refl
shown_loaded (x ∷ s) = ap (λ ys. text_rune x ++ ys) (shown_loaded s)

-- the runes and the gaps of a section from a place on
pub loaded_from : (s : List ℕ) (k : ℕ) → rasp_shown (drop k (map Some s)) ≡ text_shown (take (length s - k) (drop k s))
loaded_from s k = grind (arith, (drop-map Some k s), (shown_loaded (drop k s)), (take_rest s k))

pub gaps_from : (n k : ℕ) → rasp_shown (drop k (replicate n None)) ≡ rasp_shown (replicate (n - k) None)
gaps_from n k = ap rasp_shown (drop-replicate k n None)

-- the section x begins at the place a of r, and is shown from the place p on
pub shown_on : (old mid new : List ℕ) (r : PartialText) (x : Section) (a p : ℕ) → a ≤ p → p < a + size x → take (size x) (drop a r) ≡ cells x
    → mid ≡ old ++ rasp_shown (take p r) → new ≡ mid ++ rasp_shown (drop (p - a) (cells x)) → new ≡ old ++ rasp_shown (take (a + size x) r)
shown_on old mid new r x a p l h e before put =
    let rest = (rest_at r x a p l h e).0 in
    let k = a + size x - p in
    let sum : p + k ≡ a + size x = omega (arith, h) in
    grind (
      arith,
      rest,
      (take-take p (a + size x) r (omega (arith, h))),
      (drop-take p k r),
      (take-append-drop p (take (p + k) r)),
      (flat_map-append place_shown (take p r) (take k (drop p r))),
      (append_assoc old (rasp_shown (take p r)) (rasp_shown (take k (drop p r)))),
    )

pub slots_more : {X : Type 0} (line : ℕ → Option X → List ℕ) (tag : ℕ) (xs : Slots X) (i : ℕ) (d : Option X) → i < length xs
    → slot_lines line tag (take (suc i) xs) ≡ slot_lines line tag (take i xs) ++ line (tag + i) (slice_index_or xs i d)
slots_more line tag (x ∷ xs) (suc i) d within = grind (arith, append_assoc, (slots_more line (1 + tag) xs i d))
slots_more line tag xs i d e = grind (arith, append-nil)

pub slot_there : {X : Type 0} (xs : Slots X) (i : ℕ) → i < length xs → slot xs i ≡ slice_index_or xs i None
slot_there (x ∷ xs) (suc i) within = slot_there xs i (omega (arith, within))
slot_there xs i e = grind arith

pub slots_step : {X : Type 0} (line : ℕ → Option X → List ℕ) (old mid new : List ℕ) (xs : Slots X) (i : ℕ) (d : Option X) → i < length xs
    → mid ≡ old ++ slot_lines line 0 (take i xs) → new ≡ mid ++ line i (slice_index_or xs i d) → new ≡ old ++ slot_lines line 0 (take (i + 1) xs)
slots_step line old mid new xs i d within before put = grind (arith, (append_assoc old (slot_lines line 0 (take i xs)) (line i (slice_index_or xs i d))), (slots_more line 0 xs i d within))

-- what `push_section` rests on
pub ruleset section_facts = (loaded_from, gaps_from)

-- what `push_rasp` rests on
pub ruleset rasp_facts = (shown_on, rest_at)
