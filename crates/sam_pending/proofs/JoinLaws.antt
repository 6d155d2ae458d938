-- Runs that stand for the same cells.
use Rattle.std.proofs.Common.{◌≡◌, refl, sym, ap, ◌∙◌, subst, ℕ, zero, suc, ◌+◌, ◌-◌, ◌≤◌, Bool, true, false, cond, nat_le, List, [], ◌∷◌, ◌++◌, map, take, drop, Option, Some, None, is_none, nat_eq, arith, append_assoc, append-nil, drop-drop, take-append-drop, take-take}
use Rattle.std.proofs.lemmas.List.{map-append, drop-take}
use Rattle.std.specs.Option.{option_eq}
use Rattle.std.proofs.lemmas.Bool.Decides.{nat_tests, leb_tells}
use Rattle.sam_pending.specs.Cells.{PartialText}
use Rattle.sam_pending.specs.Runs.{held, typed_by, runes_of, room, rooms, wait, waits, above, cells, cells_of, Within, size, run_counts, head_of, tail_of, front, back, IsSame}
use Rattle.sam_pending.specs.declared.run.Stretch.{Stretch}
use Rattle.sam_pending.specs.declared.run.Run.{Run}
use Rattle.sam_pending.specs.declared.run.Run.TheVariants.{Held, Typed}
use Rattle.sam_pending.specs.declared.run.Side.{Side}
use Rattle.sam_pending.specs.declared.run.Side.TheVariants.{Above}
use Rattle.sam_pending.proofs.RunLaws.{cells_of-append, rooms-append, within-append, run-rooms}

pub waits-append : (a b : List Run) → waits (a ++ b) ≡ waits a + waits b
waits-append [] b = omega arith
waits-append (x ∷ a) b = omega (arith, waits-append a b)

pub above-append : (a b : List Run) → above (a ++ b) ≡ above a + above b
above-append [] b = omega arith
above-append (x ∷ a) b = step (run_counts Above x) (above-append a b)
  where
    step : (t : Bool) → above (a ++ b) ≡ above a + above b → cond t (size x + above (a ++ b)) (above (a ++ b)) ≡ cond t (size x + above a) (above a) + above b
    step true e = omega (arith, e)
    step false e = e

-- a run that is cut
above-cut : (k : ℕ) (x : Run) → k ≤ size x → above (head_of k x ∷ []) + above (tail_of k x ∷ []) ≡ above (x ∷ [])
above-cut k (Held n None) l = omega (arith, l)
above-cut k (Held n (Some h)) l = refl
above-cut k (Typed s b None) l = omega (arith, l)
above-cut k (Typed s b (Some h)) l = refl

pub within-first : (n : ℕ) (a b : List Run) → Within n (a ++ b) → Within n a
within-first n [] b w = tt
within-first n (x ∷ a) b w = (w.0, within-first n a b w.1)

pub within-last : (n : ℕ) (a b : List Run) → Within n (a ++ b) → Within n b
within-last n [] b w = w
within-last n (x ∷ a) b w = within-last n a b w.1

pub same-then : (xs ys zs : List Run) → IsSame xs ys → IsSame ys zs → IsSame xs zs
same-then xs ys zs a b = record {
  cells = λ text r. a.cells text r ∙ b.cells text r;
  rooms = a.rooms ∙ b.rooms;
  waits = a.waits ∙ b.waits;
  above = a.above ∙ b.above;
  within = λ n w. a.within n (b.within n w);
}

cells-three : (text : List ℕ) (r : PartialText) (a x b : List Run)
    → cells_of text r (a ++ x ++ b) ≡ cells_of text r a ++ cells_of text (drop (rooms a) r) x ++ cells_of text (drop (rooms a + rooms x) r) b
cells-three text r a x b =
    cells_of-append text r (a ++ x) b
    ∙ (ap (λ z. z ++ cells_of text (drop (rooms (a ++ x)) r) b) (cells_of-append text r a x)
    ∙ ap (λ k. cells_of text r a ++ cells_of text (drop (rooms a) r) x ++ cells_of text (drop k r) b) (rooms-append a x))

-- what is shown of the runs up to a place is no more than of all
pub above-split : (v : Side) (p : ℕ) (xs : List Run) → above (front v p xs) + above (back v p xs) ≡ above xs
above-split v zero xs = omega arith
above-split v (suc p) [] = refl
above-split v (suc p) (x ∷ xs) =
    step (run_counts v x) (nat_le (size x) (suc p)) refl (above-split v (suc p - size x) xs) (above-split v (suc p) xs)
  where
    one : (ys : List Run) → above (x ∷ ys) ≡ above (x ∷ []) + above ys
    one ys = above-append (x ∷ []) ys

    step : (t n : Bool) → nat_le (size x) (suc p) ≡ n
        → above (front v (suc p - size x) xs) + above (back v (suc p - size x) xs) ≡ above xs
        → above (front v (suc p) xs) + above (back v (suc p) xs) ≡ above xs
        → above (cond t (cond n (x ∷ front v (suc p - size x) xs) (head_of (suc p) x ∷ [])) (x ∷ front v (suc p) xs))
        + above (cond t (cond n (back v (suc p - size x) xs) (tail_of (suc p) x ∷ xs)) (back v (suc p) xs))
        ≡ above (x ∷ xs)
    step true true n h i = omega (arith, one (front v (suc p - size x) xs), one xs, h)
    step true false n h i =
        let l : suc p ≤ size x = grind (arith, n, leb_tells) in
        omega (arith, above-append (tail_of (suc p) x ∷ []) xs, one xs, above-cut (suc p) x l)
    step false n m h i = omega (arith, one (front v (suc p) xs), one xs, i)

-- and so are the members of the rasp in them, and the runes that wait
pub rooms-split : (v : Side) (p : ℕ) (xs : List Run) → rooms (front v p xs) + rooms (back v p xs) ≡ rooms xs
rooms-split v zero xs = omega arith
rooms-split v (suc p) [] = refl
rooms-split v (suc p) (x ∷ xs) = step (run_counts v x) (nat_le (size x) (suc p)) refl (rooms-split v (suc p - size x) xs) (rooms-split v (suc p) xs)
  where
    step : (t n : Bool) → nat_le (size x) (suc p) ≡ n
        → rooms (front v (suc p - size x) xs) + rooms (back v (suc p - size x) xs) ≡ rooms xs
        → rooms (front v (suc p) xs) + rooms (back v (suc p) xs) ≡ rooms xs
        → rooms (cond t (cond n (x ∷ front v (suc p - size x) xs) (head_of (suc p) x ∷ [])) (x ∷ front v (suc p) xs))
        + rooms (cond t (cond n (back v (suc p - size x) xs) (tail_of (suc p) x ∷ xs)) (back v (suc p) xs))
        ≡ rooms (x ∷ xs)
    step true true n h i = omega (arith, h)
    step true false n h i = let l : suc p ≤ size x = grind (arith, n, leb_tells) in omega (arith, run-rooms (suc p) x l)
    step false n m h i = omega (arith, i)

pub waits-split : (v : Side) (p : ℕ) (xs : List Run) → waits (front v p xs) + waits (back v p xs) ≡ waits xs
waits-split v zero xs = omega arith
waits-split v (suc p) [] = refl
waits-split v (suc p) (x ∷ xs) = step (run_counts v x) (nat_le (size x) (suc p)) refl (waits-split v (suc p - size x) xs) (waits-split v (suc p) xs)
  where
    cut : (k : ℕ) (y : Run) → k ≤ size y → wait (head_of k y) + wait (tail_of k y) ≡ wait y
    cut k (Held m d) l = refl
    cut k (Typed s g d) l = omega (arith, l)

    step : (t n : Bool) → nat_le (size x) (suc p) ≡ n
        → waits (front v (suc p - size x) xs) + waits (back v (suc p - size x) xs) ≡ waits xs
        → waits (front v (suc p) xs) + waits (back v (suc p) xs) ≡ waits xs
        → waits (cond t (cond n (x ∷ front v (suc p - size x) xs) (head_of (suc p) x ∷ [])) (x ∷ front v (suc p) xs))
        + waits (cond t (cond n (back v (suc p - size x) xs) (tail_of (suc p) x ∷ xs)) (back v (suc p) xs))
        ≡ waits (x ∷ xs)
    step true true n h i = omega (arith, h)
    step true false n h i = let l : suc p ≤ size x = grind (arith, n, leb_tells) in omega (arith, cut (suc p) x l)
    step false n m h i = omega (arith, i)

pub same-between : (a x y b : List Run) → IsSame x y → IsSame (a ++ x ++ b) (a ++ y ++ b)
same-between a x y b s = record {
  cells = λ text r.
      cells-three text r a x b
      ∙ (ap (λ z. cells_of text r a ++ z ++ cells_of text (drop (rooms a + rooms x) r) b) (s.cells text (drop (rooms a) r))
      ∙ (ap (λ k. cells_of text r a ++ cells_of text (drop (rooms a) r) y ++ cells_of text (drop (rooms a + k) r) b) s.rooms
      ∙ sym (cells-three text r a y b)));
  rooms = omega (arith, s.rooms, rooms-append (a ++ x) b, rooms-append (a ++ y) b, rooms-append a x, rooms-append a y);
  waits = omega (arith, s.waits, waits-append (a ++ x) b, waits-append (a ++ y) b, waits-append a x, waits-append a y);
  above = omega (arith, s.above, above-append (a ++ x) b, above-append (a ++ y) b, above-append a x, above-append a y);
  within = λ n w.
      let first : Within n (a ++ y) = within-first n (a ++ y) b w in
      within-append n (a ++ x) b (within-append n a x (within-first n a y first) (s.within n (within-last n a y first))) (within-last n (a ++ y) b w);
}

-- ## One of two is empty

none-held : (d : Option ℕ) (b : Run) → IsSame (b ∷ []) (Held 0 d ∷ b ∷ [])
none-held d b = record {
  cells = λ text r. refl;
  rooms = omega arith;
  waits = omega arith;
  above = step (is_none d);
  within = λ n w. w.1;
}
  where
    step : (t : Bool) → above (b ∷ []) ≡ cond t (0 + above (b ∷ [])) (above (b ∷ []))
    step true = omega arith
    step false = refl

pub same_first : (a b : Run) → size a ≡ 0 → IsSame (b ∷ []) (a ∷ b ∷ [])
same_first (Held n d) b e = subst (λ k. IsSame (b ∷ []) (Held k d ∷ b ∷ [])) (sym e) (none-held d b)
same_first (Typed s g d) b e = record {
  cells = λ text r. ap (λ k. map (typed_by g d) (take k (drop s.start text)) ++ cells_of text r (b ∷ [])) (sym e);
  rooms = omega arith;
  waits = omega (arith, e);
  above = step (is_none d);
  within = λ n w. w.1;
}
  where
    step : (t : Bool) → above (b ∷ []) ≡ cond t (s.count + above (b ∷ [])) (above (b ∷ []))
    step true = omega (arith, e)
    step false = refl

pub same_second : (a b : Run) → size b ≡ 0 → IsSame (a ∷ []) (a ∷ b ∷ [])
same_second a (Held n d) e = record {
  cells = λ text r. ap (λ k. cells text r a ++ (map (held d) (take k (drop (room a) r)) ++ [])) (sym e);
  rooms = omega (arith, e);
  waits = omega arith;
  above = ap (λ z. cond (run_counts Above a) (size a + z) z) (step (is_none d));
  within = λ n w. (w.0, tt);
}
  where
    step : (t : Bool) → 0 ≡ cond t (n + 0) 0
    step true = omega (arith, e)
    step false = refl
same_second a (Typed s g d) e = record {
  cells = λ text r. ap (λ k. cells text r a ++ (map (typed_by g d) (take k (drop s.start text)) ++ [])) (sym e);
  rooms = omega arith;
  waits = omega (arith, e);
  above = ap (λ z. cond (run_counts Above a) (size a + z) z) (step (is_none d));
  within = λ n w. (w.0, tt);
}
  where
    step : (t : Bool) → 0 ≡ cond t (s.count + 0) 0
    step true = omega (arith, e)
    step false = refl

-- ## Two of one sort

pub take-add : {X : Type 0} (n m : ℕ) (r : List X) → take (n + m) r ≡ take n r ++ take m (drop n r)
take-add n m r =
    sym (take-append-drop n (take (n + m) r))
    ∙ (ap (λ z. z ++ drop n (take (n + m) r)) (take-take n (n + m) r (omega arith)) ∙ ap (λ z. take n r ++ z) (drop-take n m r))

sums : (t : Bool) (n m : ℕ) → cond t (n + m + 0) 0 ≡ cond t (n + cond t (m + 0) 0) (cond t (m + 0) 0)
sums true n m = omega arith
sums false n m = refl

pub same_held : (n m : ℕ) (d e : Option ℕ) → d ≡ e → IsSame (Held (n + m) d ∷ []) (Held n d ∷ Held m e ∷ [])
same_held n m d e h = subst (λ z. IsSame (Held (n + m) d ∷ []) (Held n d ∷ Held m z ∷ [])) h (record {
  cells = λ text r.
      append-nil (map (held d) (take (n + m) r))
      ∙ (ap (map (held d)) (take-add n m r)
      ∙ (map-append (held d) (take n r) (take m (drop n r)) ∙ ap (λ z. map (held d) (take n r) ++ z) (sym (append-nil (map (held d) (take m (drop n r)))))));
  rooms = omega arith;
  waits = omega arith;
  above = sums (is_none d) n m;
  within = λ k w. (w.0, tt);
})

pub same_typed : (s t : Stretch) (g : ℕ) (d : Option ℕ) → s.start + s.count ≡ t.start
    → IsSame (Typed (record { start = s.start; count = s.count + t.count }) g d ∷ []) (Typed s g d ∷ Typed t g d ∷ [])
same_typed s t g d e = record {
  cells = λ text r.
      let rest : drop s.count (drop s.start text) ≡ drop t.start text = drop-drop s.count s.start text ∙ ap (λ k. drop k text) (omega (arith, e)) in
      append-nil (map (typed_by g d) (take (s.count + t.count) (drop s.start text)))
      ∙ (ap (map (typed_by g d)) (take-add s.count t.count (drop s.start text) ∙ ap (λ z. take s.count (drop s.start text) ++ take t.count z) rest)
      ∙ (map-append (typed_by g d) (runes_of text s) (runes_of text t) ∙ ap (λ z. map (typed_by g d) (runes_of text s) ++ z) (sym (append-nil (map (typed_by g d) (runes_of text t))))));
  rooms = omega arith;
  waits = omega arith;
  above = sums (is_none d) s.count t.count;
  within = λ k w. (omega (arith, e, w.1.0), tt);
}

pub same_option : (a b : Option ℕ) → true ≡ option_eq nat_eq a b → a ≡ b
same_option None None e = refl
same_option None (Some y) e = absurd cc
same_option (Some x) None e = absurd cc
same_option (Some x) (Some y) e = ap Some (grind (arith, e, nat_tests))

pub ruleset join_facts = (same_first, same_second)

-- ## The walk

pub join_begins : (xs : List Run) → IsSame ([] ++ Held 0 None ∷ xs) xs
join_begins xs = record {
  cells = λ text r. refl;
  rooms = omega arith;
  waits = omega arith;
  above = omega arith;
  within = λ n w. (omega arith, w);
}

pub join_goes : (out rest whole : List Run) (x a b : Run) → IsSame (x ∷ []) (a ∷ b ∷ []) → IsSame (out ++ a ∷ b ∷ rest) whole → IsSame (out ++ x ∷ rest) whole
join_goes out rest whole x a b s h =
    let two : out ++ (a ∷ b ∷ []) ++ rest ≡ out ++ a ∷ b ∷ rest = append_assoc out (a ∷ b ∷ []) rest in
    let one : out ++ (x ∷ []) ++ rest ≡ out ++ x ∷ rest = append_assoc out (x ∷ []) rest in
    same-then (out ++ x ∷ rest) (out ++ a ∷ b ∷ rest) whole
    (subst (λ z. IsSame z (out ++ a ∷ b ∷ rest)) one (subst (IsSame (out ++ (x ∷ []) ++ rest)) two (same-between out (x ∷ []) (a ∷ b ∷ []) rest s))) h

pub join_stays : (out rest whole : List Run) (a b : Run) → IsSame (out ++ a ∷ b ∷ rest) whole → IsSame (out ++ a ∷ [] ++ b ∷ rest) whole
join_stays out rest whole a b h = subst (λ z. IsSame z whole) (sym (append_assoc out (a ∷ []) (b ∷ rest))) h

pub ruleset joined_facts = (join_begins, join_goes, join_stays)
