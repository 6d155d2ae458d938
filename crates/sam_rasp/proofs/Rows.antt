-- Lists of parts: what one of them stands for, between those before it and those after it.
use Rattle.sam_rasp.proofs.Common.{◌≡◌, refl, sym, ap, ◌∙◌, subst, ℕ, zero, suc, ◌+◌, ◌-◌, ◌≤◌, ◌<◌, List, [], ◌∷◌, ◌++◌, take, drop, length, get_or, set, insert, arith, take-append-drop, drop_all, length-take, length-drop, append-nil, append_assoc, length-append, flat_map-append, Bool, ◌↔◌, Agrees, PartialText, most_kept, part, del, ins, size, cells, Section, is_sort, prefix_len, max, min, length-replicate, Option, None, ◌⊎◌, inl, inr, true, false, drop-append-le, take-append-le}
use Rattle.std.specs.Prelude.{remove}
use Rattle.std.proofs.lemmas.List.{take_all, take_rest, take_more, take_more_set, set_split}
use Rattle.sam_rasp.specs.Rasp.{put_cells, sort_from, sort_before}
use Rattle.sam_rasp.specs.Rows.{incoming_cells}
use Rattle.sam_rasp.specs.Counting.{CanComeIn, Fits, plus}
use Rattle.sam_rasp.specs.Tallies.{tally_of}
use Rattle.sam_rasp.specs.declared.tally.Tally.{Tally}
use Rattle.sam_rasp.specs.Rows.{members_of, NoneEmpty}
use Rattle.sam_rasp.specs.declared.section.Incoming.{Incoming}
use Rattle.sam_rasp.specs.declared.section.Incoming.TheVariants.{Runes, Gaps}
use Rattle.std.proofs.lemmas.Bool.{cases_lt}
use Rattle.sam_rasp.proofs.SectionLaws.{length-cells}
use Rattle.sam_rasp.proofs.Tallies.{part-middle, sum-tally}
use Rattle.sam_rasp.proofs.Agreeing.{stretch}
use Rattle.sam_rasp.proofs.RaspLaws.{length_agrees}
use Rattle.sam_rasp.proofs.Runs.{before-ends, before-goes-on, before-most, before-runes, from-end, from-ends, from-goes-on, from-most, from-runes}
use Rattle.sam_rasp.proofs.Changes.{nil-of, put-middle, del-middle, take-past, drop-past, length-put, length-del, length-some, del-twice, put-alone}

pub members_append : {P : Type 0} (f : P → PartialText) (xs ys : List P) → members_of f (xs ++ ys) ≡ members_of f xs ++ members_of f ys
members_append f xs ys = flat_map-append f xs ys

pub length-first : {P : Type 0} (f : P → PartialText) (a : P) (xs : List P) → length (members_of f (a ∷ xs)) ≡ length (f a) + length (members_of f xs)
length-first f a xs = length-append (f a) (members_of f xs)

pub take-first : {X : Type 0} (a b : List X) (n : ℕ) → length a ≡ n → take n (a ++ b) ≡ a
take-first a b n e = grind (arith, (take-past a b 0 n), append-nil, e)

pub ins-here : (a b m : PartialText) → ins (a ++ b) (length a) m ≡ (a ++ m) ++ b
ins-here a b m = grind (arith, (take-past a b 0 (length a)), (drop-past a b 0 (length a)), append-nil)

-- ## No part is empty

pub some-append : {P : Type 0} (f : P → PartialText) (xs ys : List P) → NoneEmpty f xs → NoneEmpty f ys → NoneEmpty f (xs ++ ys)
some-append f [] ys h g = g
some-append f (x ∷ xs) ys h g = (h.0, some-append f xs ys h.1 g)

pub some-take : {P : Type 0} (f : P → PartialText) (xs : List P) (i : ℕ) → NoneEmpty f xs → NoneEmpty f (take i xs)
some-take f xs zero h = tt
some-take f [] (suc i) h = tt
some-take f (x ∷ xs) (suc i) h = (h.0, some-take f xs i h.1)

pub some-drop : {P : Type 0} (f : P → PartialText) (xs : List P) (i : ℕ) → NoneEmpty f xs → NoneEmpty f (drop i xs)
some-drop f xs zero h = h
some-drop f [] (suc i) h = tt
some-drop f (x ∷ xs) (suc i) h = some-drop f xs i h.1

pub some-at : {P : Type 0} (f : P → PartialText) (xs : List P) (i : ℕ) (x : P) → i < length xs → x ≡ get_or xs i x → NoneEmpty f xs → 0 < length (f x)
some-at f (a ∷ xs) zero x l e h = subst (λ z. 0 < length (f z)) (sym e) h.0
some-at f (a ∷ xs) (suc i) x l e h = some-at f xs i x (omega (arith, l)) e h.1
some-at f [] i x l e h = absurd (omega (arith, l))

-- ## One part

parted : {P : Type 0} (xs : List P) (i : ℕ) (x : P) → i < length xs → x ≡ get_or xs i x → xs ≡ take i xs ++ x ∷ drop (i + 1) xs
parted xs i x l e =
    sym (take-append-drop (i + 1) xs)
    ∙ (ap (λ y. y ++ drop (i + 1) xs) (take_more xs i x l) ∙ grind (arith, e, append_assoc))

pub put-set : {P : Type 0} (xs : List P) (i : ℕ) (y : P) → i < length xs → set xs i y ≡ take i xs ++ y ∷ drop (i + 1) xs
put-set xs i y l = let step : suc i ≡ i + 1 = omega arith in set_split xs i y l ∙ ap (λ k. take i xs ++ y ∷ drop k xs) step

pub members-three : {P : Type 0} (f : P → PartialText) (l : List P) (x : P) (r : List P) → members_of f (l ++ x ∷ r) ≡ members_of f l ++ (f x ++ members_of f r)
members-three f l x r = members_append f l (x ∷ r)

members-push : {P : Type 0} (f : P → PartialText) (l : List P) (x : P) → members_of f (l ++ x ∷ []) ≡ members_of f l ++ f x
members-push f l x = members-three f l x [] ∙ ap (λ z. members_of f l ++ z) (append-nil (f x))

pub at-index : {P : Type 0} (f : P → PartialText) (xs : List P) (i : ℕ) (x : P) → i < length xs → x ≡ get_or xs i x
    → (members_of f xs ≡ members_of f (take i xs) ++ (f x ++ members_of f (drop (i + 1) xs)))
    × (length (members_of f (take (i + 1) xs)) ≡ length (members_of f (take i xs)) + length (f x))
at-index f xs i x l e =
    let far : members_of f (take (i + 1) xs) ≡ members_of f (take i xs) ++ f x =
    ap (members_of f) (take_more xs i x l ∙ ap (λ y. take i xs ++ y ∷ []) (sym e)) ∙ members-push f (take i xs) x in (
      ap (members_of f) (parted xs i x l e) ∙ members-three f (take i xs) x (drop (i + 1) xs),
      ap length far ∙ length-append (members_of f (take i xs)) (f x),
    )

pub taken-short : {P : Type 0} (f : P → PartialText) (xs : List P) (n : ℕ) → length (members_of f (take n xs)) ≤ length (members_of f xs)
taken-short f xs zero = omega arith
taken-short f [] (suc n) = omega arith
taken-short f (a ∷ xs) (suc n) = omega (arith, length-first f a xs, length-first f a (take n xs), taken-short f xs n)

-- the tally of the first part and the others
pub members-sum : {P : Type 0} (f : P → PartialText) (a : P) (xs : List P) (t u : Tally) → t ≡ tally_of (f a) → u ≡ tally_of (members_of f xs)
    → length (members_of f (a ∷ xs)) ≤ most_kept → Fits (plus t u) × (plus t u ≡ tally_of (members_of f (a ∷ xs)))
members-sum f a xs t u e g l = sum-tally (members_of f (a ∷ xs)) (f a) (members_of f xs) t u refl e g l

-- what `find` rests on
pub ruleset find_facts = (at-index, taken-short, take_all)

-- what `counts` rests on
pub ruleset count_facts = (length-first, members-sum)

-- ## A change of one part

pub set-members : {P : Type 0} (f : P → PartialText) (xs : List P) (i : ℕ) (y : P) → i < length xs → members_of f (set xs i y) ≡ members_of f (take i xs) ++ (f y ++ members_of f (drop (i + 1) xs))
set-members f xs i y l = ap (members_of f) (put-set xs i y l) ∙ members-three f (take i xs) y (drop (i + 1) xs)

pub some-set : {P : Type 0} (f : P → PartialText) (xs : List P) (i : ℕ) (y : P) → i < length xs → NoneEmpty f xs → 0 < length (f y) → NoneEmpty f (set xs i y)
some-set f xs i y l h s = subst (NoneEmpty f) (sym (put-set xs i y l)) (some-append f (take i xs) (y ∷ drop (i + 1) xs) (some-take f xs i h) (s, some-drop f xs (i + 1) h))

pub set-same : {P : Type 0} (f : P → PartialText) (xs : List P) (i : ℕ) (x y : P) → i < length xs → x ≡ get_or xs i x → f y ≡ f x → members_of f (set xs i y) ≡ members_of f xs
set-same f xs i x y l e s =
    set-members f xs i y l ∙ (ap (λ z. members_of f (take i xs) ++ (z ++ members_of f (drop (i + 1) xs))) s ∙ sym (at-index f xs i x l e).0)

pub set-del : {P : Type 0} (f : P → PartialText) (xs : List P) (i : ℕ) (x y : P) (at end : ℕ) → i < length xs → x ≡ get_or xs i x → at ≤ end → end ≤ length (f x)
    → f y ≡ del (f x) at end
    → members_of f (set xs i y) ≡ del (members_of f xs) (length (members_of f (take i xs)) + at) (length (members_of f (take i xs)) + end)
set-del f xs i x y at end l e o w c =
    set-members f xs i y l
    ∙ (del-middle (members_of f (take i xs)) (f x) (members_of f (drop (i + 1) xs)) (f y)
    (length (members_of f (take i xs)) + at) (length (members_of f (take i xs)) + end) at end refl refl o w c
    ∙ ap (λ z. del z (length (members_of f (take i xs)) + at) (length (members_of f (take i xs)) + end)) (sym (at-index f xs i x l e).0))

pub set-put : {P : Type 0} (f : P → PartialText) (xs : List P) (i : ℕ) (x y : P) (at end : ℕ) (m : PartialText) → i < length xs → x ≡ get_or xs i x → at ≤ end
    → end ≤ length (f x) → f y ≡ put_cells (f x) at end m
    → members_of f (set xs i y) ≡ put_cells (members_of f xs) (length (members_of f (take i xs)) + at) (length (members_of f (take i xs)) + end) m
set-put f xs i x y at end m l e o w c =
    set-members f xs i y l
    ∙ (put-middle (members_of f (take i xs)) (f x) (members_of f (drop (i + 1) xs)) (f y) m
    (length (members_of f (take i xs)) + at) (length (members_of f (take i xs)) + end) at end refl refl o w c
    ∙ ap (λ z. put_cells z (length (members_of f (take i xs)) + at) (length (members_of f (take i xs)) + end) m) (sym (at-index f xs i x l e).0))

-- what stands in one part
pub part-at : {P : Type 0} (f : P → PartialText) (xs : List P) (i : ℕ) (x : P) (at end : ℕ) → i < length xs → x ≡ get_or xs i x → at ≤ end → end ≤ length (f x)
    → part (members_of f xs) (length (members_of f (take i xs)) + at) (length (members_of f (take i xs)) + end) ≡ part (f x) at end
part-at f xs i x at end l e o w =
    let a = members_of f (take i xs) in
    ap (λ z. part z (length a + at) (length a + end)) (at-index f xs i x l e).0
    ∙ part-middle a (f x) (members_of f (drop (i + 1) xs)) at end o w

-- a whole part that goes, by its tally
pub part-whole : {P : Type 0} (f : P → PartialText) (xs : List P) (i : ℕ) (x : P) (t : Tally) (at end : ℕ) → i < length xs → x ≡ get_or xs i x → end - at ≡ length (f x)
    → at ≤ end → end ≤ length (f x) → t ≡ tally_of (f x)
    → t ≡ tally_of (part (members_of f xs) (length (members_of f (take i xs)) + at) (length (members_of f (take i xs)) + end))
part-whole f xs i x t at end l e n o w h =
    let first : at ≡ 0 = omega (arith, n, o, w) in
    let last : end ≡ length (f x) = omega (arith, n, o, w) in
    let whole : part (f x) at end ≡ f x = grind (arith, first, last, (take_all (length (f x)) (f x))) in
    h ∙ (ap tally_of (sym whole) ∙ ap tally_of (sym (part-at f xs i x at end l e o w)))

pub incoming-some : (i : Incoming) → CanComeIn i → 0 < length (incoming_cells i)
incoming-some (Runes s tally) h = omega (arith, length-some s.now, h.0)
incoming-some (Gaps n) h = omega (arith, length-replicate {A = Option ℕ} n None, h.0)

-- ## A part more or less

pub insert-members : {P : Type 0} (f : P → PartialText) (xs : List P) (i : ℕ) (y : P) → members_of f (insert xs i y) ≡ ins (members_of f xs) (length (members_of f (take i xs))) (f y)
insert-members f xs i y =
    let a = members_of f (take i xs) in
    let b = members_of f (drop i xs) in
    let whole : members_of f xs ≡ a ++ b = ap (members_of f) (sym (take-append-drop i xs)) ∙ members_append f (take i xs) (drop i xs) in
    members-three f (take i xs) y (drop i xs)
    ∙ (sym (append_assoc a (f y) b) ∙ (sym (ins-here a b (f y)) ∙ ap (λ z. ins z (length a) (f y)) (sym whole)))

pub some-insert : {P : Type 0} (f : P → PartialText) (xs : List P) (i : ℕ) (y : P) → NoneEmpty f xs → 0 < length (f y) → NoneEmpty f (insert xs i y)
some-insert f xs i y h s = some-append f (take i xs) (y ∷ drop i xs) (some-take f xs i h) (s, some-drop f xs i h)

pub some-remove : {P : Type 0} (f : P → PartialText) (xs : List P) (i : ℕ) → NoneEmpty f xs → NoneEmpty f (remove xs i)
some-remove f xs i h = some-append f (take i xs) (drop (suc i) xs) (some-take f xs i h) (some-drop f xs (suc i) h)

pub remove-del : {P : Type 0} (f : P → PartialText) (xs : List P) (i : ℕ) (x : P) (at end : ℕ) → i < length xs → x ≡ get_or xs i x → at ≡ 0 → end ≡ length (f x)
    → members_of f (remove xs i) ≡ del (members_of f xs) (length (members_of f (take i xs)) + at) (length (members_of f (take i xs)) + end)
remove-del f xs i x at end l e z w =
    let a = members_of f (take i xs) in
    let b = members_of f (drop (i + 1) xs) in
    let step : suc i ≡ i + 1 = omega arith in
    members_append f (take i xs) (drop (suc i) xs)
    ∙ (ap (λ k. a ++ members_of f (drop k xs)) step
    ∙ (del-middle a (f x) b [] (length a + at) (length a + end) at end refl refl (omega (arith, z)) (omega (arith, w))
    (grind (arith, z, w, (drop_all end (f x))))
    ∙ ap (λ y. del y (length a + at) (length a + end)) (sym (at-index f xs i x l e).0)))

-- one part in two
pub halved : {P : Type 0} (f : P → PartialText) (xs : List P) (i : ℕ) (x a b : P) → i < length xs → x ≡ get_or xs i x → f a ++ f b ≡ f x
    → ins (members_of f (set xs i a)) (length (members_of f (take (i + 1) (set xs i a)))) (f b) ≡ members_of f xs
halved f xs i x a b l e u =
    let before = members_of f (take i xs) in
    let after = members_of f (drop (i + 1) xs) in
    let front : members_of f (take (i + 1) (set xs i a)) ≡ before ++ f a = ap (members_of f) (take_more_set xs i a l) ∙ members-push f (take i xs) a in
    let whole : members_of f (set xs i a) ≡ (before ++ f a) ++ after = set-members f xs i a l ∙ sym (append_assoc before (f a) after) in
    ap (λ z. ins z (length (members_of f (take (i + 1) (set xs i a)))) (f b)) whole
    ∙ (ap (λ z. ins ((before ++ f a) ++ after) (length z) (f b)) front
    ∙ (ins-here (before ++ f a) after (f b)
    ∙ (ap (λ z. z ++ after) (append_assoc before (f a) (f b) ∙ ap (λ z. before ++ z) u)
    ∙ (append_assoc before (f x) after ∙ sym (at-index f xs i x l e).0))))

-- ## Halves

pub half-members : {P : Type 0} (f : P → PartialText) (xs : List P) (h : ℕ) → members_of f (take h xs) ++ members_of f (drop h xs) ≡ members_of f xs
half-members f xs h = sym (members_append f (take h xs) (drop h xs)) ∙ ap (members_of f) (take-append-drop h xs)

pub half-length : {P : Type 0} (f : P → PartialText) (xs : List P) (h : ℕ) → length (members_of f (take h xs)) + length (members_of f (drop h xs)) ≡ length (members_of f xs)
half-length f xs h = sym (length-append (members_of f (take h xs)) (members_of f (drop h xs))) ∙ ap length (half-members f xs h)

-- parts that stand for something are some
pub some-length : {P : Type 0} (f : P → PartialText) (xs : List P) → 0 < length xs → NoneEmpty f xs → 0 < length (members_of f xs)
some-length f [] l h = absurd (omega (arith, l))
some-length f (x ∷ xs) l h = omega (arith, h.0, length-first f x xs)

pub some-parts : {P : Type 0} (f : P → PartialText) (xs : List P) → 0 < length (members_of f xs) → 0 < length xs
some-parts f [] l = absurd (omega (arith, l))
some-parts f (x ∷ xs) l = omega arith

-- ## Reading

pub agrees-first : {P : Type 0} (f : P → PartialText) (a : P) (xs : List P) (t : List ℕ) (n : ℕ) → length (f a) ≡ n
    → Agrees (members_of f (a ∷ xs)) t ↔ (Agrees (f a) (take n t) × Agrees (members_of f xs) (drop n t))
agrees-first f a xs t n e = grind (arith, (stretch (f a) (members_of f xs) (members_of f (a ∷ xs)) t (take n t) 0 n))

pub agrees-short : {P : Type 0} (f : P → PartialText) (a : P) (xs : List P) (t : List ℕ) → length t < length (f a) → Agrees (members_of f (a ∷ xs)) t → ⊥
agrees-short f a xs t l h = grind (arith, (length-first f a xs), (length_agrees (members_of f (a ∷ xs)) t h))

pub from-past : {P : Type 0} (f : P → PartialText) (b : Bool) (a : P) (xs : List P) (p k : ℕ) → length (f a) + k ≡ p
    → sort_from b (members_of f (a ∷ xs)) p ≡ sort_from b (members_of f xs) k
from-past f b a xs p k e = ap (prefix_len (is_sort b)) (drop-past (f a) (members_of f xs) k p e)

pub from-here : {P : Type 0} (f : P → PartialText) (b : Bool) (a : P) (xs : List P) (p : ℕ) → p + sort_from b (f a) p < length (f a)
    → sort_from b (members_of f (a ∷ xs)) p ≡ sort_from b (f a) p
from-here f b a xs p l = from-ends b (f a) (members_of f xs) p l

pub from-on : {P : Type 0} (f : P → PartialText) (b : Bool) (a : P) (xs : List P) (p : ℕ) → p < length (f a) → length (f a) ≤ p + sort_from b (f a) p
    → sort_from b (members_of f (a ∷ xs)) p ≡ sort_from b (f a) p + sort_from b (members_of f xs) 0
from-on f b a xs p w l =
    let none : p - length (f a) ≡ 0 = omega (arith, w) in
    from-goes-on b (f a) (members_of f xs) p l ∙ ap (λ k. sort_from b (f a) p + sort_from b (members_of f xs) k) none

-- a stretch that begins in part i, where s and t are the slices that were asked
pub from-part : {P : Type 0} (f : P → PartialText) (b : Bool) (xs s t : List P) (now : PartialText) (i q k start found : ℕ) → s ≡ xs → t ≡ xs → now ≡ members_of f xs
    → start ≡ length (members_of f (take i s)) → start + k ≡ q → found ≡ sort_from b (members_of f (take (length t - i) (drop i t))) k → found ≡ sort_from b now q
from-part f b xs s t now i q k start found es et en st e h =
    let begins : length (members_of f (take i xs)) + k ≡ q = omega (arith, st, ap (λ z. length (members_of f (take i z))) es, e) in
    let rest : take (length t - i) (drop i t) ≡ drop i xs = grind (arith, et, (take_rest t i)) in
    h
    ∙ (ap (λ z. sort_from b (members_of f z) k) rest
    ∙ (ap (prefix_len (is_sort b)) (sym (drop-past (members_of f (take i xs)) (members_of f (drop i xs)) k q begins))
    ∙ ap (λ z. sort_from b z q) (half-members f xs i ∙ sym en)))

-- the first gaps from the place p on, where the first part has r runes and g gaps there: both end in it, or what follows counts
pub hole-here : {P : Type 0} (f : P → PartialText) (a : P) (xs : List P) (p r g : ℕ) → r ≡ sort_from true (f a) p → g ≡ sort_from false (f a) (p + r)
    → p + r + g < length (f a) → (r ≡ sort_from true (members_of f (a ∷ xs)) p) × (g ≡ sort_from false (members_of f (a ∷ xs)) (p + r))
hole-here f a xs p r g e u l = (
  e ∙ sym (from-here f true a xs p (omega (arith, e, l))),
  u ∙ sym (from-here f false a xs (p + r) (omega (arith, u, l))),
)

pub hole-on : {P : Type 0} (f : P → PartialText) (a : P) (xs : List P) (p r g : ℕ) → r ≡ sort_from true (f a) p → g ≡ sort_from false (f a) (p + r)
    → 0 < g → length (f a) ≤ p + r + g
    → (r ≡ sort_from true (members_of f (a ∷ xs)) p) × (g + sort_from false (members_of f xs) 0 ≡ sort_from false (members_of f (a ∷ xs)) (p + r))
hole-on f a xs p r g e u z l =
    let most = from-most false (f a) (p + r) in
    let inside : p + r < length (f a) = omega (arith, u, z, most) in (
      e ∙ sym (from-here f true a xs p (omega (arith, e, inside))),
      ap (λ k. k + sort_from false (members_of f xs) 0) u ∙ sym (from-on f false a xs (p + r) inside (omega (arith, u, l))),
    )

pub hole-after : {P : Type 0} (f : P → PartialText) (a : P) (xs : List P) (p k r m g : ℕ) → k ≡ p - length (f a) → r ≡ sort_from true (f a) p
    → length (f a) ≤ p + r → m ≡ sort_from true (members_of f xs) k → g ≡ sort_from false (members_of f xs) (k + m)
    → (r + m ≡ sort_from true (members_of f (a ∷ xs)) p) × (g ≡ sort_from false (members_of f (a ∷ xs)) (p + (r + m)))
hole-after f a xs p k r m g w e l u v =
    let most = from-most true (f a) p in
    let on = from-goes-on true (f a) (members_of f xs) p (omega (arith, e, l)) in
    let next : m ≡ sort_from true (members_of f xs) (p - length (f a)) = u ∙ ap (sort_from true (members_of f xs)) w in (
      omega (arith, e, next, on),
      v ∙ sym (from-past f false a xs (p + (r + m)) (k + m) (omega (arith, e, l, w, most))),
    )

pub length-push : {P : Type 0} (f : P → PartialText) (l : List P) (x : P) → length (members_of f (l ++ x ∷ [])) ≡ length (members_of f l) + length (f x)
length-push f l x = ap length (members-push f l x) ∙ length-append (members_of f l) (f x)

pub before-last : {P : Type 0} (f : P → PartialText) (b : Bool) (xs l : List P) (x : P) (p len last found : ℕ) → xs ≡ l ++ x ∷ [] → len ≡ length (members_of f xs) → p ≤ len
    → last ≡ length (f x) → found ≡ sort_before b (f x) (max p (len - last) - (len - last)) → (len - last) + found < p → found ≡ sort_before b (members_of f xs) p
before-last f b xs l x p len last found e n w u v h =
    let a = members_of f l in
    let start : length a ≡ len - last = omega (arith, n, u, ap (λ z. length (members_of f z)) e, length-push f l x) in
    let k : max p (len - last) - (len - last) ≡ max p (length a) - length a = ap (λ z. max p z - z) (sym start) in
    let here : found ≡ sort_before b (f x) (max p (length a) - length a) = v ∙ ap (sort_before b (f x)) k in
    let within : p ≤ length a + length (f x) = omega (arith, start, w, u, n, ap (λ z. length (members_of f z)) e, length-push f l x) in
    here
    ∙ (sym (before-ends b a (f x) p (max p (length a) - length a) within refl (omega (arith, h, start, here)))
    ∙ ap (λ z. sort_before b z p) (sym (members-push f l x) ∙ ap (members_of f) (sym e)))

pub before-others : {P : Type 0} (f : P → PartialText) (b : Bool) (xs l : List P) (x : P) (p len last found rest : ℕ) → xs ≡ l ++ x ∷ [] → len ≡ length (members_of f xs)
    → p ≤ len → last ≡ length (f x) → found ≡ sort_before b (f x) (max p (len - last) - (len - last)) → p ≤ (len - last) + found
    → rest ≡ sort_before b (members_of f l) (min p (len - last)) → found + rest ≡ sort_before b (members_of f xs) p
before-others f b xs l x p len last found rest e n w u v h r =
    let a = members_of f l in
    let start : length a ≡ len - last = omega (arith, n, u, ap (λ z. length (members_of f z)) e, length-push f l x) in
    let k : max p (len - last) - (len - last) ≡ max p (length a) - length a = ap (λ z. max p z - z) (sym start) in
    let here : found ≡ sort_before b (f x) (max p (length a) - length a) = v ∙ ap (sort_before b (f x)) k in
    let there : rest ≡ sort_before b a (min p (length a)) = r ∙ ap (λ z. sort_before b a (min p z)) (sym start) in
    let within : p ≤ length a + length (f x) = omega (arith, start, w, u, n, ap (λ z. length (members_of f z)) e, length-push f l x) in
    let goes = before-goes-on b a (f x) p (max p (length a) - length a) within refl (omega (arith, h, start, here)) in
    omega (arith, here, there, goes, ap (λ z. sort_before b z p) (sym (members-push f l x) ∙ ap (members_of f) (sym e)))

-- ## The section at a place

section-within : (b c : PartialText) (x : Section) (place : ℕ) → take (size x) (drop place b) ≡ cells x → take (size x) (drop place (b ++ c)) ≡ cells x
section-within b c x place e = go (cases_lt (length b) place)
  where
    fits : size x ≤ length b - place
    fits = omega (arith, ap length e, length-take (size x) (drop place b), length-drop place b, length-cells x)

    go : ((length b < place) ⊎ (place ≤ length b)) → take (size x) (drop place (b ++ c)) ≡ cells x
    go (inl u) = grind (arith, fits, u, e, (length-cells x), (nil-of (cells x)))
    go (inr u) = grind (arith, fits, e, (drop-append-le place b c), (take-append-le (size x) (drop place b) c), (length-drop place b))

pub section-middle : (a b c : PartialText) (x : Section) (start place : ℕ) → length a ≡ start → take (size x) (drop place b) ≡ cells x
    → take (size x) (drop (start + place) (a ++ (b ++ c))) ≡ cells x
section-middle a b c x start place e u = ap (take (size x)) (drop-past a (b ++ c) place (start + place) (omega (arith, e))) ∙ section-within b c x place u

-- the section x begins at the place start of part i, at the place `place` of it
pub section-in : {P : Type 0} (f : P → PartialText) (xs : List P) (i : ℕ) (a : P) (x : Section) (start place : ℕ) → i < length xs → a ≡ get_or xs i a
    → start ≡ length (members_of f (take i xs)) → take (size x) (drop place (f a)) ≡ cells x → take (size x) (drop (start + place) (members_of f xs)) ≡ cells x
section-in f xs i a x start place l e s u =
    ap (λ z. take (size x) (drop (start + place) z)) (at-index f xs i a l e).0
    ∙ section-middle (members_of f (take i xs)) (f a) (members_of f (drop (i + 1) xs)) x start place (sym s) u

-- what `insert` rests on
pub ruleset insert_facts = (insert-members, some-insert)

-- what `halve` rests on
pub ruleset halve_facts = (halved, set-same, some-set, some-at, at-index, some-insert)

-- what `find_room` rests on
pub ruleset find_room_facts = (some-parts)

-- what `put` rests on
pub ruleset put_facts = (set-same, some-set, some-at, at-index)

-- what `take_out` rests on
pub ruleset take_out_facts = (some-remove, at-index)

-- what `cut_in` rests on
pub ruleset cut_in_facts = (some-at, at-index)

pub ruleset one_facts = (members_append, append-nil)

-- what `split_off` rests on
pub ruleset half_facts = (half-members, half-length, some-take, some-drop, some-length)

-- what the row's `put` rests on
pub ruleset row_put_facts = (length-put, put-alone)

-- what the row's `cut` rests on
pub ruleset row_cut_facts = (some-parts, del-twice, length-del)

-- what `section_at` rests on
pub ruleset section_at_facts = (section-in, at-index, some-parts)

-- what `agrees` rests on
pub ruleset agrees_facts = (agrees-first, agrees-short)

-- what `sort_from` rests on
pub ruleset from_facts = (from-past, from-here, from-on, length-first)

-- what `hole_from` rests on
pub ruleset hole_facts = (length-first)

-- what the row's `hole_from` rests on
pub ruleset row_hole_facts = (from-end, from-runes, some-parts, half-length)

-- what `sort_before` rests on
pub ruleset before_facts = (length-push)

pub ruleset row_before_facts = (before-runes, before-most)
