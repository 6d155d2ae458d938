-- Blocks in which places lie: what is done to these is done to all runs.
use Rattle.std.proofs.Common.{◌≡◌, refl, sym, ap, ◌∙◌, subst, ℕ, zero, suc, ◌+◌, ◌-◌, ◌≤◌, ◌<◌, ◌⊎◌, inl, inr, Bool, true, false, cond, nat_le, List, [], ◌∷◌, ◌++◌, length, take, drop, get_or, Some, None, arith, append_assoc, append-nil, length-drop, take-append-drop, take-take, drop-drop}
use Rattle.std.proofs.lemmas.List.{take_all, take_more}
use Rattle.std.proofs.lemmas.Bool.{leb-true}
use Rattle.std.proofs.lemmas.Bool.Decides.{leb_tells}
use Rattle.sam_pending.specs.Blocks.{flat, measure, StandsBehind, IsPart}
use Rattle.sam_pending.specs.Runs.{rooms, waits, above, size, run_counts, head_of, tail_of, front, back, Within, IsSame}
use Rattle.sam_pending.specs.declared.run.Run.{Run}
use Rattle.sam_pending.specs.declared.run.Run.TheVariants.{Held, Typed}
use Rattle.sam_pending.specs.declared.run.Side.{Side}
use Rattle.sam_pending.specs.declared.run.Side.TheVariants.{Below, Above}
use Rattle.sam_pending.proofs.RunLaws.{rooms-append, rooms-front, take-front, drop-front}
use Rattle.sam_pending.proofs.JoinLaws.{waits-append, above-append, above-split, rooms-split, same-between, take-add, within-first, within-last}
use Rattle.sam_pending.proofs.FlatLaws.{flat-append}
use Rattle.sam_pending.proofs.LayerLaws.{above-most}

-- ## How much counts on a side

pub measure-none : (v : Side) → measure v [] ≡ 0
measure-none Below = refl
measure-none Above = refl

measure-first : (v : Side) (x : Run) (xs : List Run) → measure v (x ∷ xs) ≡ cond (run_counts v x) (size x + measure v xs) (measure v xs)
measure-first Above x xs = refl
measure-first Below (Held n d) xs = refl
measure-first Below (Typed s g d) xs = omega arith

pub measure-append : (v : Side) (a b : List Run) → measure v (a ++ b) ≡ measure v a + measure v b
measure-append Below a b = rooms-append a b
measure-append Above a b = above-append a b

pub measure-most : (v : Side) (xs : List Run) → measure v xs ≤ rooms xs + waits xs
measure-most Below xs = omega arith
measure-most Above xs = above-most xs

measure-split : (u v : Side) (p : ℕ) (xs : List Run) → measure u (front v p xs) + measure u (back v p xs) ≡ measure u xs
measure-split Below v p xs = rooms-split v p xs
measure-split Above v p xs = above-split v p xs

-- ## Runs up to a place, past whole blocks

-- within the first runs
here-front : (v : Side) (p : ℕ) (a b : List Run) → p ≤ measure v a → front v p (a ++ b) ≡ front v p a
here-front v zero a b l = refl
here-front v (suc p) [] b l = absurd (omega (arith, l, measure-none v))
here-front v (suc p) (x ∷ a) b l =
    step (run_counts v x) (nat_le (size x) (suc p)) refl (subst (λ k. suc p ≤ k) (measure-first v x a) l) (here-front v (suc p - size x) a b) (here-front v (suc p) a b)
  where
    step : (t u : Bool) → nat_le (size x) (suc p) ≡ u → suc p ≤ cond t (size x + measure v a) (measure v a)
        → (suc p - size x ≤ measure v a → front v (suc p - size x) (a ++ b) ≡ front v (suc p - size x) a)
        → (suc p ≤ measure v a → front v (suc p) (a ++ b) ≡ front v (suc p) a)
        → cond t (cond u (x ∷ front v (suc p - size x) (a ++ b)) (head_of (suc p) x ∷ [])) (x ∷ front v (suc p) (a ++ b))
        ≡ cond t (cond u (x ∷ front v (suc p - size x) a) (head_of (suc p) x ∷ [])) (x ∷ front v (suc p) a)
    step true true e i f g = let le : size x ≤ suc p = leb-true (size x) (suc p) e in ap (λ z. x ∷ z) (f (omega (arith, i, le)))
    step true false e i f g = refl
    step false u e i f g = ap (λ z. x ∷ z) (g i)

here-back : (v : Side) (p : ℕ) (a b : List Run) → p ≤ measure v a → back v p (a ++ b) ≡ back v p a ++ b
here-back v zero a b l = refl
here-back v (suc p) [] b l = absurd (omega (arith, l, measure-none v))
here-back v (suc p) (x ∷ a) b l =
    step (run_counts v x) (nat_le (size x) (suc p)) refl (subst (λ k. suc p ≤ k) (measure-first v x a) l) (here-back v (suc p - size x) a b) (here-back v (suc p) a b)
  where
    step : (t u : Bool) → nat_le (size x) (suc p) ≡ u → suc p ≤ cond t (size x + measure v a) (measure v a)
        → (suc p - size x ≤ measure v a → back v (suc p - size x) (a ++ b) ≡ back v (suc p - size x) a ++ b)
        → (suc p ≤ measure v a → back v (suc p) (a ++ b) ≡ back v (suc p) a ++ b)
        → cond t (cond u (back v (suc p - size x) (a ++ b)) (tail_of (suc p) x ∷ (a ++ b))) (back v (suc p) (a ++ b))
        ≡ cond t (cond u (back v (suc p - size x) a) (tail_of (suc p) x ∷ a)) (back v (suc p) a) ++ b
    step true true e i f g = let le : size x ≤ suc p = leb-true (size x) (suc p) e in f (omega (arith, i, le))
    step true false e i f g = refl
    step false u e i f g = g i

-- what is shown of the runs up to a place
front-shown : (p : ℕ) (a : List Run) → p ≤ above a → above (front Above p a) ≡ p
front-shown zero a l = refl
front-shown (suc p) [] l = absurd (omega (arith, l))
front-shown (suc p) (x ∷ a) l = step (run_counts Above x) refl (nat_le (size x) (suc p)) refl l (front-shown (suc p - size x) a) (front-shown (suc p) a)
  where
    headed : (k : ℕ) (y : Run) → run_counts Above y ≡ true → above (head_of k y ∷ []) ≡ k
    headed k (Held n None) c = omega arith
    headed k (Held n (Some h)) c = absurd cc
    headed k (Typed s b None) c = omega arith
    headed k (Typed s b (Some h)) c = absurd cc

    first : (t : Bool) (ys : List Run) → run_counts Above x ≡ t → above (x ∷ ys) ≡ cond t (size x + above ys) (above ys)
    first t ys c = ap (λ z. cond z (size x + above ys) (above ys)) c

    step : (t : Bool) → run_counts Above x ≡ t → (u : Bool) → nat_le (size x) (suc p) ≡ u → suc p ≤ cond t (size x + above a) (above a)
        → (suc p - size x ≤ above a → above (front Above (suc p - size x) a) ≡ suc p - size x)
        → (suc p ≤ above a → above (front Above (suc p) a) ≡ suc p)
        → above (cond t (cond u (x ∷ front Above (suc p - size x) a) (head_of (suc p) x ∷ [])) (x ∷ front Above (suc p) a)) ≡ suc p
    step true c true e i f g =
        let le : size x ≤ suc p = leb-true (size x) (suc p) e in
        omega (arith, le, first true (front Above (suc p - size x) a) c, f (omega (arith, i, le)))
    step true c false e i f g = headed (suc p) x c
    step false c u e i f g = first false (front Above (suc p) a) c ∙ g i

front-measured : (v : Side) (p : ℕ) (a : List Run) → p ≤ measure v a → measure v (front v p a) ≡ p
front-measured Below p a l = rooms-front p a l
front-measured Above p a l = front-shown p a l

-- behind all of the first runs
past-front : (v : Side) (p k : ℕ) (a b : List Run) → 0 < k → p ≡ measure v a + k → front v p (a ++ b) ≡ a ++ front v k b
past-front v zero k a b l e = absurd (omega (arith, l, e))
past-front v (suc p) k [] b l e = let same : suc p ≡ k = omega (arith, e, measure-none v) in ap (λ z. front v z b) same
past-front v (suc p) k (x ∷ a) b l e =
    step (run_counts v x) (nat_le (size x) (suc p)) refl (e ∙ ap (λ j. j + k) (measure-first v x a)) (past-front v (suc p - size x) k a b l) (past-front v (suc p) k a b l)
  where
    step : (t u : Bool) → nat_le (size x) (suc p) ≡ u → suc p ≡ cond t (size x + measure v a) (measure v a) + k
        → (suc p - size x ≡ measure v a + k → front v (suc p - size x) (a ++ b) ≡ a ++ front v k b)
        → (suc p ≡ measure v a + k → front v (suc p) (a ++ b) ≡ a ++ front v k b)
        → cond t (cond u (x ∷ front v (suc p - size x) (a ++ b)) (head_of (suc p) x ∷ [])) (x ∷ front v (suc p) (a ++ b)) ≡ x ∷ (a ++ front v k b)
    step true true f i h j = ap (λ z. x ∷ z) (h (omega (arith, i)))
    step true false f i h j = let le : size x ≤ suc p = omega (arith, i) in absurd (grind (arith, f, le, leb_tells))
    step false u f i h j = ap (λ z. x ∷ z) (j i)

past-back : (v : Side) (p k : ℕ) (a b : List Run) → 0 < k → p ≡ measure v a + k → back v p (a ++ b) ≡ back v k b
past-back v zero k a b l e = absurd (omega (arith, l, e))
past-back v (suc p) k [] b l e = let same : suc p ≡ k = omega (arith, e, measure-none v) in ap (λ z. back v z b) same
past-back v (suc p) k (x ∷ a) b l e =
    step (run_counts v x) (nat_le (size x) (suc p)) refl (e ∙ ap (λ j. j + k) (measure-first v x a)) (past-back v (suc p - size x) k a b l) (past-back v (suc p) k a b l)
  where
    step : (t u : Bool) → nat_le (size x) (suc p) ≡ u → suc p ≡ cond t (size x + measure v a) (measure v a) + k
        → (suc p - size x ≡ measure v a + k → back v (suc p - size x) (a ++ b) ≡ back v k b)
        → (suc p ≡ measure v a + k → back v (suc p) (a ++ b) ≡ back v k b)
        → cond t (cond u (back v (suc p - size x) (a ++ b)) (tail_of (suc p) x ∷ (a ++ b))) (back v (suc p) (a ++ b)) ≡ back v k b
    step true true f i h j = h (omega (arith, i))
    step true false f i h j = let le : size x ≤ suc p = omega (arith, i) in absurd (grind (arith, f, le, leb_tells))
    step false u f i h j = j i

-- place p of the runs a and b and c is place k of b
record Parted (v : Side) (p k : ℕ) (a b c : List Run) : Type 0 where
  pub front : front v p (a ++ (b ++ c)) ≡ a ++ front v k b
  pub back : back v p (a ++ (b ++ c)) ≡ back v k b ++ c

parted : (v : Side) (p k : ℕ) (a b c : List Run) → (0 < k) ⊎ (a ≡ []) → measure v a + k ≡ p → k ≤ measure v b → Parted v p k a b c
parted v p k a b c (inl s) e l = record {
  front = past-front v p k a (b ++ c) s (sym e) ∙ ap (λ z. a ++ z) (here-front v k b c l);
  back = past-back v p k a (b ++ c) s (sym e) ∙ here-back v k b c l;
}
parted v p k a b c (inr n) e l =
    subst (λ z. Parted v p k z b c) (sym n)
    (let same : p ≡ k = sym e ∙ (ap (λ z. measure v z + k) n ∙ omega (arith, measure-none v)) in
    record {
      front = ap (λ j. front v j (b ++ c)) same ∙ here-front v k b c l;
      back = ap (λ j. back v j (b ++ c)) same ∙ here-back v k b c l;
    })

-- ## A part

-- what stands up to the two places, between and behind them
pub record PartSays (v : Side) (bs : List (List Run)) (p q i n k : ℕ) (xs : List Run) : Type 0 where
  pub before : front v p (flat bs) ≡ flat (take i bs) ++ front v k xs
  pub between : front v (q - p) (back v p (flat bs)) ≡ front v (q - p) (back v k xs)
  pub behind : back v (q - p) (back v p (flat bs)) ≡ back v (q - p) (back v k xs) ++ flat (drop (i + n) bs)
  pub shown : above (front v p (flat bs)) ≡ above (flat (take i bs)) + above (front v k xs)

pub part_says : {v : Side} {bs : List (List Run)} {p q i n k : ℕ} {xs : List Run} → IsPart v bs p q i n k xs → PartSays v bs p q i n k xs
part_says {v} {bs} {p} {q} {i} {n} {k} {xs} h =
    let a = flat (take i bs) in
    let c = flat (drop (i + n) bs) in
    let first : (0 < k) ⊎ (a ≡ []) = begins h.place.behind in
    let d : Parted v p k a xs c = parted v p k a xs c first h.place.place (omega (arith, h.reaches)) in
    let y = back v k xs in
    let rest : q - p ≤ measure v y = omega (arith, h.reaches, measure-split v v k xs, front-measured v k xs (omega (arith, h.reaches))) in
    let ahead : front v p (flat bs) ≡ a ++ front v k xs = ap (front v p) h.runs ∙ d.front in
    let others : back v p (flat bs) ≡ y ++ c = ap (back v p) h.runs ∙ d.back in
    record {
      before = ahead;
      between = ap (front v (q - p)) others ∙ here-front v (q - p) y c rest;
      behind = ap (back v (q - p)) others ∙ here-back v (q - p) y c rest;
      shown = ap above ahead ∙ above-append a (front v k xs);
    }
  where
    begins : (0 < k) ⊎ (i ≡ 0) → (0 < k) ⊎ (flat (take i bs) ≡ [])
    begins (inl l) = inl l
    begins (inr e) = inr (ap (λ j. flat (take j bs)) e)

-- others in place of what stands between
pub part_changes : {v : Side} {bs : List (List Run)} {p q i n k : ℕ} {xs : List Run} (made : List (List Run)) (d : List Run) → IsPart v bs p q i n k xs
    → IsSame (flat made) (front v k xs ++ d ++ back v (q - p) (back v k xs))
    → IsSame (flat (take i bs ++ made ++ drop (i + n) bs)) (front v p (flat bs) ++ d ++ back v (q - p) (back v p (flat bs)))
part_changes {v} {bs} {p} {q} {i} {n} {k} {xs} made d h same =
    let a = flat (take i bs) in
    let c = flat (drop (i + n) bs) in
    let f = front v k xs in
    let z = back v (q - p) (back v k xs) in
    let says = part_says h in
    let new : flat (take i bs ++ made ++ drop (i + n) bs) ≡ a ++ flat made ++ c =
    flat-append (take i bs ++ made) (drop (i + n) bs) ∙ ap (λ y. y ++ c) (flat-append (take i bs) made) in
    let old : a ++ (f ++ d ++ z) ++ c ≡ front v p (flat bs) ++ d ++ back v (q - p) (back v p (flat bs)) =
    moved a f d z c ∙ (ap (λ y. y ++ d ++ (z ++ c)) (sym says.before) ∙ ap (λ y. front v p (flat bs) ++ d ++ y) (sym says.behind)) in
    subst (λ y. IsSame y (front v p (flat bs) ++ d ++ back v (q - p) (back v p (flat bs)))) (sym new)
    (subst (IsSame (a ++ flat made ++ c)) old (same-between a (flat made) (f ++ d ++ z) c same))
  where
    moved : (a f d z c : List Run) → a ++ (f ++ d ++ z) ++ c ≡ (a ++ f) ++ d ++ (z ++ c)
    moved a f d z c =
        sym (sym (append_assoc ((a ++ f) ++ d) z c)
        ∙ ap (λ u. u ++ c) (ap (λ u. u ++ z) (append_assoc a f d) ∙ append_assoc a (f ++ d) z))

pub part_within : {v : Side} {bs : List (List Run)} {p q i n k : ℕ} {xs : List Run} (m : ℕ) → IsPart v bs p q i n k xs → Within m (flat bs) → Within m xs
part_within {v} {bs} {p} {q} {i} {n} {k} {xs} m h w =
    let a = flat (take i bs) in
    let c = flat (drop (i + n) bs) in
    within-first m xs c (within-last m a (xs ++ c) (subst (Within m) h.runs w))

-- how much is in them
pub record PartFits (bs : List (List Run)) (i : ℕ) (xs : List Run) : Type 0 where
  pub held : rooms xs ≤ rooms (flat bs)
  pub all : rooms xs + waits xs ≤ rooms (flat bs) + waits (flat bs)
  pub shown : above (flat (take i bs)) + above xs ≤ above (flat bs)

pub part_fits : {v : Side} {bs : List (List Run)} {p q i n k : ℕ} {xs : List Run} → IsPart v bs p q i n k xs → PartFits bs i xs
part_fits {v} {bs} {p} {q} {i} {n} {k} {xs} h =
    let a = flat (take i bs) in
    let c = flat (drop (i + n) bs) in
    record {
      held = omega (arith, ap rooms h.runs, rooms-append a (xs ++ c), rooms-append xs c);
      all = omega (arith, ap rooms h.runs, ap waits h.runs, rooms-append a (xs ++ c), rooms-append xs c, waits-append a (xs ++ c), waits-append xs c);
      shown = omega (arith, ap above h.runs, above-append a (xs ++ c), above-append xs c);
    }

-- ## Walks to a part

pub measure-more : (v : Side) (bs : List (List Run)) (i : ℕ) (b : List Run) → i < length bs → b ≡ get_or bs i b
    → (measure v (flat (take (i + 1) bs)) ≡ measure v (flat (take i bs)) + measure v b) × (measure v (flat (take (i + 1) bs)) ≤ measure v (flat bs))
measure-more v bs i b l e =
    let one : flat (take (i + 1) bs) ≡ flat (take i bs) ++ b =
    ap flat (take_more bs i b l ∙ ap (λ z. take i bs ++ z ∷ []) (sym e)) ∙ (flat-append (take i bs) (b ∷ []) ∙ ap (λ z. flat (take i bs) ++ z) (append-nil b)) in
    let whole : flat bs ≡ flat (take (i + 1) bs) ++ flat (drop (i + 1) bs) = ap flat (sym (take-append-drop (i + 1) bs)) ∙ flat-append (take (i + 1) bs) (drop (i + 1) bs) in (
      ap (measure v) one ∙ measure-append v (flat (take i bs)) b,
      omega (arith, ap (measure v) whole, measure-append v (flat (take (i + 1) bs)) (flat (drop (i + 1) bs))),
    )

pub ruleset walk_facts = (measure-more, measure-none, flat-append, append-nil)

-- the blocks from place i on, as a slice has them
others-all : (bs : List (List Run)) (i : ℕ) → take (length bs - i) (drop i bs) ≡ drop i bs
others-all bs i = take_all (length bs - i) (drop i bs) (omega (arith, length-drop i bs))

pub others-measure : (v : Side) (bs : List (List Run)) (i : ℕ) → measure v (flat (take i bs)) + measure v (flat (take (length bs - i) (drop i bs))) ≡ measure v (flat bs)
others-measure v bs i =
    let e : flat bs ≡ flat (take i bs) ++ flat (drop i bs) = ap flat (sym (take-append-drop i bs)) ∙ flat-append (take i bs) (drop i bs) in
    omega (arith, ap (measure v) e, measure-append v (flat (take i bs)) (flat (drop i bs)), ap (λ z. measure v (flat z)) (others-all bs i))

others-three : (bs : List (List Run)) (i n : ℕ)
    → flat bs ≡ flat (take i bs) ++ (flat (take n (take (length bs - i) (drop i bs))) ++ flat (drop (i + n) bs))
others-three bs i n =
    let rest = drop i bs in
    let far : drop n rest ≡ drop (i + n) bs = drop-drop n i bs in
    let two : flat rest ≡ flat (take n rest) ++ flat (drop (i + n) bs) =
    ap flat (sym (take-append-drop n rest)) ∙ (flat-append (take n rest) (drop n rest) ∙ ap (λ z. flat (take n rest) ++ flat z) far) in
    ap flat (sym (take-append-drop i bs))
    ∙ (flat-append (take i bs) rest ∙ (ap (λ z. flat (take i bs) ++ z) two ∙ ap (λ z. flat (take i bs) ++ (flat (take n z) ++ flat (drop (i + n) bs))) (sym (others-all bs i))))

pub is_part : (v : Side) (bs : List (List Run)) (p q i n k : ℕ) (xs : List Run) → StandsBehind v bs p i k → n ≤ length (take (length bs - i) (drop i bs))
    → k + (q - p) ≤ measure v (flat (take n (take (length bs - i) (drop i bs)))) → xs ≡ flat (take n (take (length bs - i) (drop i bs)))
    → IsPart v bs p q i n k xs
is_part v bs p q i n k xs s count reaches e = record {
  there = omega (arith, count, ap length (others-all bs i), length-drop i bs, s.index);
  place = s;
  reaches = subst (λ z. k + (q - p) ≤ measure v z) (sym e) reaches;
  runs = others-three bs i n ∙ ap (λ z. flat (take i bs) ++ (z ++ flat (drop (i + n) bs))) (sym e);
}

-- ## Others in place of some blocks

-- what is turned round, cut, lengthened and turned round again
pub put_blocks : (bs made : List (List Run)) (i n k : ℕ) → i + n ≤ length bs → k ≡ length bs - (i + n)
    → drop k (take (k + i) (drop (i + n) bs ++ take (i + n) bs) ++ made) ++ take k (take (k + i) (drop (i + n) bs ++ take (i + n) bs) ++ made)
    ≡ take i bs ++ made ++ drop (i + n) bs
put_blocks bs made i n k l e =
    let a = take i bs in
    let c = drop (i + n) bs in
    let y = take (i + n) bs in
    let size : k ≡ length c = omega (arith, e, length-drop (i + n) bs) in
    let here : take k (c ++ y) ≡ c = ap (λ j. take j (c ++ y)) size ∙ take-front c y in
    let past : drop k (c ++ y) ≡ y = ap (λ j. drop j (c ++ y)) size ∙ drop-front c y in
    let cut : take (k + i) (c ++ y) ≡ c ++ a =
    take-add k i (c ++ y) ∙ (ap (λ z. z ++ take i (drop k (c ++ y))) here ∙ ap (λ z. c ++ z) (ap (take i) past ∙ take-take i (i + n) bs (omega arith))) in
    let long : take (k + i) (c ++ y) ++ made ≡ c ++ (a ++ made) = ap (λ z. z ++ made) cut ∙ append_assoc c a made in
    ap (λ z. drop k z ++ take k z) long
    ∙ (ap (λ j. drop j (c ++ (a ++ made)) ++ take j (c ++ (a ++ made))) size
    ∙ (ap (λ z. z ++ take (length c) (c ++ (a ++ made))) (drop-front c (a ++ made)) ∙ ap (λ z. a ++ made ++ z) (take-front c (a ++ made))))

pub ruleset put_facts = (put_blocks)
