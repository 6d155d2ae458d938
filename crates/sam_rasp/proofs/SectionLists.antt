-- Lists of sections: what changes of one of them, or of two neighbours, make of what they stand for.
use Rattle.sam_rasp.proofs.Common.{◌≡◌, sym, ap, ◌∙◌, subst, ℕ, zero, suc, ◌+◌, ◌≤◌, ◌<◌, List, [], ◌∷◌, ◌++◌, take, drop, length, get_or, set, insert, arith, take-append-drop, take-take, drop_all, length-set, length-take, length-drop, append-nil, append_assoc, length-append, PartialText, NoneEmpty, cells, cells_of, size, part, ins, Section}
use Rattle.std.specs.Prelude.{remove}
use Rattle.std.proofs.lemmas.List.{take_all, take-set, take_more, take_more_set}
use Rattle.std.proofs.Common.{get_or-take, length-take-le}
use Rattle.sam_rasp.specs.Rasp.{put_cells}
use Rattle.sam_rasp.proofs.SectionLaws.{cells-push, length-cells}
use Rattle.sam_rasp.proofs.Rows as rows

pub at-index : (xs : List Section) (i : ℕ) (x : Section) → i < length xs → x ≡ get_or xs i x
    → (cells_of xs ≡ cells_of (take i xs) ++ (cells x ++ cells_of (drop (i + 1) xs)))
    × (length (cells_of (take (i + 1) xs)) ≡ length (cells_of (take i xs)) + size x)
at-index xs i x l e = let r = rows.at-index cells xs i x l e in (r.0, omega (arith, r.1, length-cells x))

pub end-set : (xs : List Section) (i : ℕ) (y : Section) → i < length xs → length (cells_of (take (i + 1) (set xs i y))) ≡ length (cells_of (take i xs)) + size y
end-set xs i y l =
    ap (λ z. length (cells_of z)) (take_more_set xs i y l)
    ∙ (ap length (cells-push (take i xs) y) ∙ omega (arith, length-append (cells_of (take i xs)) (cells y), length-cells y))

-- ## A change of one section

pub set-put : (xs : List Section) (i : ℕ) (x y : Section) (at end : ℕ) (m : PartialText) → i < length xs → x ≡ get_or xs i x → at ≤ end → end ≤ size x
    → cells y ≡ put_cells (cells x) at end m
    → cells_of (set xs i y) ≡ put_cells (cells_of xs) (length (cells_of (take i xs)) + at) (length (cells_of (take i xs)) + end) m
set-put xs i x y at end m l e o w c = rows.set-put cells xs i x y at end m l e o (omega (arith, w, length-cells x)) c

-- what stands in one section
pub part-at : (xs : List Section) (i : ℕ) (x : Section) (at end : ℕ) → i < length xs → x ≡ get_or xs i x → at ≤ end → end ≤ size x
    → part (cells_of xs) (length (cells_of (take i xs)) + at) (length (cells_of (take i xs)) + end) ≡ part (cells x) at end
part-at xs i x at end l e o w = rows.part-at cells xs i x at end l e o (omega (arith, w, length-cells x))

pub set-whole : (xs : List Section) (i : ℕ) (x y : Section) (at end : ℕ) (m : PartialText) → i < length xs → x ≡ get_or xs i x → at ≡ 0 → end ≡ size x
    → cells y ≡ m → cells_of (set xs i y) ≡ put_cells (cells_of xs) (length (cells_of (take i xs)) + at) (length (cells_of (take i xs)) + end) m
set-whole xs i x y at end m l e z w c =
    set-put xs i x y at end m l e (omega (arith, z)) (omega (arith, w))
    (grind (arith, z, w, c, (length-cells x), (drop_all end (cells x)), (append-nil m)))

pub insert-cells : (xs : List Section) (i : ℕ) (y : Section) → cells_of (insert xs i y) ≡ ins (cells_of xs) (length (cells_of (take i xs))) (cells y)
insert-cells xs i y = rows.insert-members cells xs i y

pub before-insert : (xs : List Section) (i : ℕ) (y : Section) → i ≤ length xs → take i (insert xs i y) ≡ take i xs
before-insert xs i y l = rows.take-first (take i xs) (y ∷ drop i xs) i (length-take-le i xs l)

-- one section in two
pub split-cells : (xs : List Section) (i : ℕ) (x a b : Section) (at : ℕ) → i < length xs → x ≡ get_or xs i x → cells a ≡ take at (cells x) → cells b ≡ drop at (cells x)
    → ins (cells_of (set xs i a)) (length (cells_of (take (i + 1) (set xs i a)))) (cells b) ≡ cells_of xs
split-cells xs i x a b at l e u w = rows.halved cells xs i x a b l e (grind (arith, u, w, (take-append-drop at (cells x))))

pub before-split : (xs zs : List Section) (i : ℕ) (y : Section) → take (i + 1) zs ≡ take (i + 1) (set xs i y) → take i zs ≡ take i xs
before-split xs zs i y e =
    sym (take-take i (i + 1) zs (omega arith)) ∙ (ap (take i) e ∙ (take-take i (i + 1) (set xs i y) (omega arith) ∙ take-set xs i y))

-- ## Two sections that become one

joined-lists : (l r : List Section) (a b y : Section) (i : ℕ) → length l ≡ i → cells y ≡ cells a ++ cells b
    → cells_of (remove (set (l ++ a ∷ []) i y ++ b ∷ r) (suc i)) ≡ cells_of (l ++ a ∷ b ∷ r)
joined-lists [] r a b y zero e u = grind (arith, u, (append_assoc (cells a) (cells b) (cells_of r)))
joined-lists (x ∷ l) r a b y (suc i) e u = ap (λ z. cells x ++ z) (joined-lists l r a b y i (omega (arith, e)) u)
joined-lists [] r a b y (suc i) e u = absurd (omega (arith, e))
joined-lists (x ∷ l) r a b y zero e u = absurd (omega (arith, e))

joined-some : (l r : List Section) (a b y : Section) (i : ℕ) → length l ≡ i → 0 < length (cells y) → NoneEmpty cells (l ++ a ∷ b ∷ r)
    → NoneEmpty cells (remove (set (l ++ a ∷ []) i y ++ b ∷ r) (suc i))
joined-some [] r a b y zero e f h = (f, h.1.1)
joined-some (x ∷ l) r a b y (suc i) e f h = (h.0, joined-some l r a b y i (omega (arith, e)) f h.1)
joined-some [] r a b y (suc i) e f h = absurd (omega (arith, e))
joined-some (x ∷ l) r a b y zero e f h = absurd (omega (arith, e))

-- sections i and i + 1, where the list is parted between them
pair : (xs : List Section) (i : ℕ) (a b : Section) → i + 1 < length xs → a ≡ get_or (take (i + 1) xs) i a → b ≡ get_or (drop (i + 1) xs) 0 b
    → (take (i + 1) xs ≡ take i xs ++ a ∷ []) × (drop (i + 1) xs ≡ b ∷ drop 1 (drop (i + 1) xs))
pair xs i a b l e u =
    let here : a ≡ get_or xs i a = grind (arith, e, (get_or-take (i + 1) xs i a)) in (
      take_more xs i a (omega (arith, l)) ∙ ap (λ z. take i xs ++ z ∷ []) (sym here),
      first-of (drop (i + 1) xs) b (omega (arith, l, length-drop (i + 1) xs)) u,
    )
  where
    first-of : (ys : List Section) (y : Section) → 0 < length ys → y ≡ get_or ys 0 y → ys ≡ y ∷ drop 1 ys
    first-of [] y l e = absurd (omega (arith, l))
    first-of (z ∷ ys) y l e = ap (λ w. w ∷ ys) (sym e)

pub pair-cells : (xs : List Section) (i : ℕ) (a b : Section) → i + 1 < length xs → a ≡ get_or (take (i + 1) xs) i a → b ≡ get_or (drop (i + 1) xs) 0 b
    → xs ≡ take i xs ++ a ∷ b ∷ drop 1 (drop (i + 1) xs)
pair-cells xs i a b l e u =
    let p = pair xs i a b l e u in
    sym (take-append-drop (i + 1) xs)
    ∙ (ap (λ z. z ++ drop (i + 1) xs) p.0 ∙ (append_assoc (take i xs) (a ∷ []) (drop (i + 1) xs) ∙ ap (λ z. take i xs ++ a ∷ z) p.1))

pub pair-size : (xs : List Section) (i : ℕ) (a b : Section) → i + 1 < length xs → a ≡ get_or (take (i + 1) xs) i a → b ≡ get_or (drop (i + 1) xs) 0 b
    → NoneEmpty cells xs → (0 < length (cells a)) × (size a + size b ≤ length (cells_of xs))
pair-size xs i a b l e u h =
    let whole = pair-cells xs i a b l e u in
    let r = drop 1 (drop (i + 1) xs) in (
      some-middle (take i xs) a (b ∷ r) (subst (NoneEmpty cells) whole h),
      omega (arith, ap (λ z. length (cells_of z)) whole, length-three (take i xs) a (b ∷ r), rows.length-first cells b r, length-cells b),
    )
  where
    some-middle : (l : List Section) (s : Section) (r : List Section) → NoneEmpty cells (l ++ s ∷ r) → 0 < length (cells s)
    some-middle [] s r h = h.0
    some-middle (x ∷ l) s r h = some-middle l s r h.1

    length-three : (l : List Section) (s : Section) (r : List Section) → length (cells_of (l ++ s ∷ r)) ≡ length (cells_of l) + (size s + length (cells_of r))
    length-three l s r = ap length (rows.members-three cells l s r) ∙ omega (arith, length-append (cells_of l) (cells s ++ cells_of r), length-append (cells s) (cells_of r), length-cells s)

pub pair-joined : (xs : List Section) (i : ℕ) (a b y : Section) → i + 1 < length xs → a ≡ get_or (take (i + 1) xs) i a → b ≡ get_or (drop (i + 1) xs) 0 b
    → cells y ≡ cells a ++ cells b → NoneEmpty cells xs
    → (cells_of (remove (set (take (i + 1) xs) i y ++ drop (i + 1) xs) (i + 1)) ≡ cells_of xs)
    × NoneEmpty cells (remove (set (take (i + 1) xs) i y ++ drop (i + 1) xs) (i + 1))
pair-joined xs i a b y l e u c h =
    let p = pair xs i a b l e u in
    let r = drop 1 (drop (i + 1) xs) in
    let f : 0 < length (cells y) = omega (arith, ap length c, length-append (cells a) (cells b), (pair-size xs i a b l e u h).0) in
    let len : length (take i xs) ≡ i = omega (arith, length-take i xs, l) in
    let step : i + 1 ≡ suc i = omega arith in
    let lists : remove (set (take (i + 1) xs) i y ++ drop (i + 1) xs) (i + 1) ≡ remove (set (take i xs ++ a ∷ []) i y ++ b ∷ r) (suc i) =
    ap (λ z. remove (set z i y ++ drop (i + 1) xs) (i + 1)) p.0
    ∙ (ap (λ z. remove (set (take i xs ++ a ∷ []) i y ++ z) (i + 1)) p.1 ∙ ap (λ k. remove (set (take i xs ++ a ∷ []) i y ++ b ∷ r) k) step) in
    let whole = pair-cells xs i a b l e u in (
      ap cells_of lists ∙ (joined-lists (take i xs) r a b y i len c ∙ ap cells_of (sym whole)),
      subst (NoneEmpty cells) (sym lists) (joined-some (take i xs) r a b y i len f (subst (NoneEmpty cells) whole h)),
    )

-- a list of that length, written over the whole of it
pub written : (xs zs : List Section) (n : ℕ) → length zs ≡ length xs → n ≡ length xs → take n (zs ++ drop (length zs) xs) ≡ zs
written xs zs n e u = grind (arith, e, u, (drop_all (length zs) xs), (append-nil zs), (take_all n zs))

pub length-pair : (xs : List Section) (i : ℕ) (y : Section) → i + 1 < length xs → length (set (take (i + 1) xs) i y ++ drop (i + 1) xs) ≡ length xs
length-pair xs i y l =
    omega (arith, length-append (set (take (i + 1) xs) i y) (drop (i + 1) xs), length-set (take (i + 1) xs) i y, length-take (i + 1) xs, length-drop (i + 1) xs, l)

pub taken-more : (xs : List Section) (n : ℕ) → length (cells_of (take n xs)) ≤ length (cells_of (take (n + 1) xs))
taken-more xs n = subst (λ z. length (cells_of z) ≤ length (cells_of (take (n + 1) xs))) (take-take n (n + 1) xs (omega arith)) (rows.taken-short cells (take (n + 1) xs) n)

-- what `insert` rests on
pub ruleset insert_facts = (insert-cells, before-insert)

-- what `cut_in` rests on
pub ruleset cut_in_facts = (at-index, end-set)

-- what `split` rests on
pub ruleset split_facts = (split-cells, before-split, end-set, at-index)

-- what `take_in` rests on
pub ruleset take_in_facts = (set-put, at-index)

pub ruleset put_facts = (length-cells)

pub ruleset apart_facts = (length-cells)

pub ruleset join_facts = (length-cells)
