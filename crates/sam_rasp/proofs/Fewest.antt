-- In how few sections a partial text may be kept.
use Rattle.sam_rasp.proofs.Common.{◌≡◌, refl, sym, ap, ◌∙◌, subst, ℕ, zero, suc, ◌+◌, ◌-◌, ◌≤◌, ◌<◌, List, [], ◌∷◌, ◌++◌, Option, map, min, replicate, drop, length, Some, None, Bool, true, false, arith, length-append, drop-drop, drop_at, drop-replicate, length-drop, length-replicate, prefix_len, is_sort, most_in_message, PartialText, cells, cells_of, IsFilled, IsNormal, StaysApart, Section, Loaded, Hole}
use Rattle.std.specs.Prelude.{◌*◌, ⊤, if◌then◌else◌, nat_lt}
use Rattle.std.specs.Int.{div_ceil}
use Rattle.std.proofs.lemmas.Grind.{div_ceil_times}
use Rattle.std.proofs.lemmas.List.{drop_all}
use Rattle.std.proofs.lemmas.List.Sums.{prefix_len-le-length}
use Rattle.sam_rasp.specs.Sections.{IsKeptIn}
use Rattle.sam_rasp.proofs.SectionLaws.{filled, length-cells}

-- ## The fewest sections: of a stretch of runes all but the first are as long as they may be

abbrev pub one_gap : List Section → List Section
one_gap [] = Hole 1 ∷ []
one_gap (Loaded s ∷ xs) = Hole 1 ∷ Loaded s ∷ xs
one_gap (Hole n ∷ xs) = Hole (suc n) ∷ xs

abbrev pub one_rune : ℕ → List Section → List Section
one_rune c [] = Loaded (c ∷ []) ∷ []
one_rune c (Loaded s ∷ xs) = if nat_lt (length s) most_in_message then Loaded (c ∷ s) ∷ xs else Loaded (c ∷ []) ∷ Loaded s ∷ xs
one_rune c (Hole n ∷ xs) = Loaded (c ∷ []) ∷ Hole n ∷ xs

abbrev pub packed : PartialText → List Section
packed [] = []
packed (None ∷ r) = one_gap (packed r)
packed (Some c ∷ r) = one_rune c (packed r)

-- what stands behind such a section: no hole behind a hole, and no short text behind a text
abbrev pub Follows : Section → List Section → Type 0
Follows a [] = ⊤
Follows (Loaded s) (Loaded t ∷ xs) = length t ≡ most_in_message
Follows (Loaded s) (Hole n ∷ xs) = ⊤
Follows (Hole n) (Loaded s ∷ xs) = ⊤
Follows (Hole n) (Hole m ∷ xs) = ⊥

abbrev pub ArePacked : List Section → Type 0
ArePacked [] = ⊤
ArePacked (a ∷ xs) = IsFilled a × Follows a xs × ArePacked xs

follows-text : (s t : List ℕ) (xs : List Section) → Follows (Loaded s) xs → Follows (Loaded t) xs
follows-text s t xs h = grind (arith, h)

follows-hole : (n m : ℕ) (xs : List Section) → Follows (Hole n) xs → Follows (Hole m) xs
follows-hole n m xs h = grind (arith, h)

gap-packs : (xs : List Section) → ArePacked xs → ArePacked (one_gap xs)
gap-packs xs h = grind (arith, h, follows-hole)

-- a text that takes no more runes is as long as it may be
whole-text : (s : List ℕ) → nat_lt (length s) most_in_message ≡ false → length s ≤ most_in_message → length s ≡ most_in_message
whole-text s e l = grind (arith, e, l)

rune-packs : (c : ℕ) (xs : List Section) → ArePacked xs → ArePacked (one_rune c xs)
rune-packs c xs h = grind (arith, h, follows-text)

packs : (r : PartialText) → ArePacked (packed r)
packs [] = tt
packs (None ∷ r) = gap-packs (packed r) (packs r)
packs (Some c ∷ r) = rune-packs c (packed r) (packs r)

stays-apart : (a : Section) (xs : List Section) → IsFilled a → Follows a xs → StaysApart a xs
stays-apart a xs f h = grind (arith, f, h)

packed-normal : (xs : List Section) → ArePacked xs → IsNormal xs
packed-normal [] h = tt
packed-normal (a ∷ xs) h = (h.0, stays-apart a xs h.0 h.1, packed-normal xs h.2)

cells-gap : (xs : List Section) → cells_of (one_gap xs) ≡ None ∷ cells_of xs
cells-gap xs = grind arith

cells-rune : (c : ℕ) (xs : List Section) → cells_of (one_rune c xs) ≡ Some c ∷ cells_of xs
cells-rune c xs = grind arith

cells-packed : (r : PartialText) → cells_of (packed r) ≡ r
cells-packed [] = refl
cells-packed (None ∷ r) = cells-gap (packed r) ∙ ap (λ z. None ∷ z) (cells-packed r)
cells-packed (Some c ∷ r) = cells-rune c (packed r) ∙ ap (λ z. Some c ∷ z) (cells-packed r)

pub kept-packed : (r : PartialText) → IsKeptIn r (length (packed r))
kept-packed r = (packed r, packed-normal (packed r) (packs r), cells-packed r, refl)

-- ## How many there are

-- the sections begin with k texts, which have n runes together
abbrev pub HasTexts : List Section → (k n : ℕ) → Type 0
HasTexts [] k n = (k ≡ 0) × (n ≡ 0)
HasTexts (Loaded s ∷ xs) k n = n + most_in_message ≡ length s + most_in_message * k
HasTexts (Hole m ∷ xs) k n = (k ≡ 0) × (n ≡ 0)

abbrev pub front_runes : PartialText → ℕ
front_runes u = prefix_len (is_sort true) u

abbrev pub front_gaps : PartialText → ℕ
front_gaps u = prefix_len (is_sort false) u

no-texts : (xs : List Section) → HasTexts (one_gap xs) 0 0
no-texts xs = grind arith

text-more : (c : ℕ) (xs : List Section) (k n rest : ℕ) → ArePacked xs → length xs ≡ k + rest → HasTexts xs k n
    → (j : ℕ) × (length (one_rune c xs) ≡ j + rest) × HasTexts (one_rune c xs) j (1 + n)
text-more c [] k n rest h e t = (1, omega (arith, e, t.0), omega (arith, t.1))
text-more c (Hole m ∷ xs) k n rest h e t = (1, omega (arith, e, t.0), omega (arith, t.1))
text-more c (Loaded s ∷ xs) k n rest h e t = go (nat_lt (length s) most_in_message) refl
  where
    go : (b : Bool) → nat_lt (length s) most_in_message ≡ b
        → (j : ℕ) × (length (if b then Loaded (c ∷ s) ∷ xs else Loaded (c ∷ []) ∷ Loaded s ∷ xs) ≡ j + rest)
        × HasTexts (if b then Loaded (c ∷ s) ∷ xs else Loaded (c ∷ []) ∷ Loaded s ∷ xs) j (1 + n)
    go true u = (k, e, omega (arith, t))
    go false u = (1 + k, omega (arith, e), omega (arith, t, whole-text s u h.0.1))

drop-one : (x : Option ℕ) (u : PartialText) (n : ℕ) → drop (1 + n) (x ∷ u) ≡ drop n u
drop-one x u n = let e : 1 + n ≡ suc n = omega arith in ap (λ k. drop k (x ∷ u)) e

texts-of : (u : PartialText) → (k : ℕ) × (length (packed u) ≡ k + length (packed (drop (front_runes u) u))) × HasTexts (packed u) k (front_runes u)
texts-of [] = (0, refl, (refl, refl))
texts-of (None ∷ u) = (0, omega arith, no-texts (packed u))
texts-of (Some c ∷ u) =
    let t = texts-of u in
    let m = text-more c (packed u) t.0 (front_runes u) (length (packed (drop (front_runes u) u))) (packs u) t.1 t.2 in
    (m.0, m.1 ∙ ap (λ z. m.0 + length (packed z)) (sym (drop-one (Some c) u (front_runes u))), m.2)

text-count : (xs : List Section) (k n : ℕ) → ArePacked xs → HasTexts xs k n → k ≡ div_ceil n most_in_message
text-count xs k n h t = grind (arith, h, t, (div_ceil_times n most_in_message))

-- the sections begin with a hole where the partial text begins with gaps
abbrev pub HasHole : List Section → ℕ → Type 0
HasHole [] g = g ≡ 0
HasHole (Loaded s ∷ xs) g = g ≡ 0
HasHole (Hole n ∷ xs) g = 0 < g

no-hole : (c : ℕ) (xs : List Section) → HasHole (one_rune c xs) 0
no-hole c xs = grind arith

hole-more : (xs : List Section) (g rest : ℕ) → length xs ≡ min g 1 + rest → HasHole xs g
    → (length (one_gap xs) ≡ min (1 + g) 1 + rest) × HasHole (one_gap xs) (1 + g)
hole-more xs g rest e h = grind (arith, e, h)

hole-of : (u : PartialText) → (length (packed u) ≡ min (front_gaps u) 1 + length (packed (drop (front_gaps u) u))) × HasHole (packed u) (front_gaps u)
hole-of [] = (refl, refl)
hole-of (Some c ∷ u) = (omega arith, no-hole c (packed u))
hole-of (None ∷ u) =
    let h = hole-of u in
    let m = hole-more (packed u) (front_gaps u) (length (packed (drop (front_gaps u) u))) h.0 h.1 in
    (m.0 ∙ ap (λ z. min (1 + front_gaps u) 1 + length (packed z)) (sym (drop-one None u (front_gaps u))), m.1)

some-more : (u : PartialText) → 0 < length u → 0 < front_runes u + front_gaps (drop (front_runes u) u)
some-more [] l = absurd (omega (arith, l))
some-more (Some c ∷ u) l = omega arith
some-more (None ∷ u) l = omega arith

-- the sections of a stretch of runes, and the hole behind it
pub counted : (r : PartialText) (at runes gaps : ℕ) → runes ≡ front_runes (drop at r) → gaps ≡ front_gaps (drop (at + runes) r) → at < length r
    → (length (packed (drop at r)) ≡ div_ceil runes most_in_message + min gaps 1 + length (packed (drop (at + (runes + gaps)) r)))
    × (0 < runes + gaps) × (at + (runes + gaps) ≤ length r)
counted r at runes gaps e f l =
    let u = drop at r in
    let t = texts-of u in
    let k = text-count (packed u) t.0 (front_runes u) (packs u) t.2 in
    let h = (hole-of (drop (front_runes u) u)).0 in
    let more = some-more u (omega (arith, l, length-drop at r)) in
    let m = prefix_len-le-length (is_sort true) u in
    let g = prefix_len-le-length (is_sort false) (drop (front_runes u) u) in (
      grind (arith, e, f, t.1, k, h, (drop-drop runes at r), (drop-drop gaps (at + runes) r)),
      grind (arith, e, f, more, (drop-drop runes at r)),
      grind (arith, e, f, m, g, l, (drop-drop runes at r), (length-drop at r), (length-drop (front_runes u) u)),
    )

-- ## What holds of any such number

-- each section stands for something
normal-short : (xs : List Section) → IsNormal xs → length xs ≤ length (cells_of xs)
normal-short [] h = omega arith
normal-short (a ∷ xs) h = omega (arith, filled a h.0, normal-short xs h.2, length-append (cells a) (cells_of xs), length-cells a)

loaded-first : (s : List ℕ) (rest : PartialText) (k : ℕ) → 0 < length s → map Some s ++ rest ≡ replicate k None → ⊥
loaded-first [] rest k l e = omega (arith, l)
loaded-first (c ∷ s) rest zero l e = absurd (cc)
loaded-first (c ∷ s) rest (suc k) l e = absurd (cc)

-- gaps alone make one section at most
gaps-one : (xs : List Section) (k : ℕ) → IsNormal xs → cells_of xs ≡ replicate k None → length xs ≤ 1
gaps-one (Hole n ∷ Loaded s ∷ xs) k h e =
    let after : map Some s ++ cells_of xs ≡ replicate (k - n) None =
    sym (drop_at (replicate n None) (map Some s ++ cells_of xs) n (length-replicate n None)) ∙ (ap (drop n) e ∙ drop-replicate n k None) in
    absurd (loaded-first s (cells_of xs) (k - n) h.2.0.0 after)
gaps-one xs k e u = grind (arith, loaded-first)

gaps-exactly-one : (xs : List Section) → IsNormal xs → 0 < length (cells_of xs) → cells_of xs ≡ replicate (length (cells_of xs)) None → length xs ≡ 1
gaps-exactly-one [] h l e = absurd (omega (arith, l))
gaps-exactly-one (a ∷ xs) h l e = let at_most = gaps-one (a ∷ xs) (length (cells_of (a ∷ xs))) h e in omega (arith, at_most)

empty-none : (xs : List Section) → IsNormal xs → cells_of xs ≡ [] → length xs ≡ 0
empty-none xs h e = let short = normal-short xs h in let none : length (cells_of xs) ≡ 0 = ap length e in omega (arith, short, none)

-- there are no more sections than runes and gaps
pub packed-short : (r : PartialText) → length (packed r) ≤ length r
packed-short r = omega (arith, normal-short (packed r) (packed-normal (packed r) (packs r)), ap length (cells-packed r))

pub kept-empty : (r : PartialText) (count : ℕ) → IsKeptIn r count → r ≡ [] → count ≡ 0
kept-empty r count k e = sym k.3 ∙ empty-none k.0 k.1 (k.2 ∙ e)

pub kept-gaps : (r : PartialText) (count : ℕ) → IsKeptIn r count → 0 < length r → r ≡ replicate (length r) None → count ≡ 1
kept-gaps r count k l e =
    sym k.3 ∙ gaps-exactly-one k.0 k.1 (subst (λ y. 0 < length y) (sym k.2) l) (subst (λ y. y ≡ replicate (length y) None) (sym k.2) e)

-- at the end all are counted
pub all-counted : (r : PartialText) (at count : ℕ) → count + length (packed (drop at r)) ≡ length (packed r) → length r ≤ at → IsKeptIn r count
all-counted r at count e l = subst (IsKeptIn r) (grind (arith, e, (drop_all at r))) (kept-packed r)

-- what `sections` rests on
pub ruleset sections_facts = (counted, packed-short, all-counted, kept-empty, kept-gaps)
