-- Runs and the cells that they stand for.
use Rattle.std.proofs.Common.{◌≡◌, refl, sym, ap, ◌∙◌, subst, ℕ, zero, suc, ◌+◌, ◌-◌, ◌≤◌, ◌<◌, Bool, true, false, not, cond, nat_eq, nat_le, List, [], ◌∷◌, ◌++◌, map, length, take, drop, Option, Some, None, arith, append_assoc, append-nil, drop-drop, length-append, length-take-le, length-drop, take-take}
use Rattle.std.proofs.lemmas.List.{length-map, take-map, drop-map, drop-take}
use Rattle.std.proofs.lemmas.Bool.{leb-true, le-leb}
use Rattle.std.proofs.lemmas.Bool.Decides.{leb_tells}
use Rattle.std.proofs.lemmas.List.Elements.{filter-append}
use Rattle.sam_pending.specs.Cells.{PartialText, Cell, in_rasp, is_shown, is_group, take_by, drop_by, part_by, waiting_of, dying, resting, inserted, removed, replaced}
use Rattle.sam_pending.specs.Runs.{counts, held, typed_by, runes_of, room, rooms, cells, cells_of, reach, Within, run_counts, size, head_of, tail_of, front, back, waiting_runs, dying_run, dying_runs}
use Rattle.sam_pending.specs.declared.run.Stretch.{Stretch}
use Rattle.sam_pending.specs.declared.run.Run.{Run}
use Rattle.sam_pending.specs.declared.run.Run.TheVariants.{Held, Typed}
use Rattle.sam_pending.specs.declared.run.Side.{Side}
use Rattle.sam_pending.specs.declared.run.Side.TheVariants.{Below, Above}

-- ## Blocks of cells that all count, or of which none does

unfoldable pub AllAre : (Cell → Bool) → Bool → List Cell → Type 0
AllAre is b [] = Unit {0}
AllAre is b (c ∷ cs) = (is c ≡ b) × AllAre is b cs

-- past the whole of a block that counts
pub take-past : (is : Cell → Bool) (p : ℕ) (h cs : List Cell) → AllAre is true h → take_by is (length h + p) (h ++ cs) ≡ h ++ take_by is p cs
unfolding AllAre
take-past is p [] cs a = grind arith
take-past is p (c ∷ h) cs a =
    ap (λ k. take_by is k (c ∷ h ++ cs)) (more (length h) p)
    ∙ ap (λ z. c ∷ z) (ap (λ b. take_by is (cond b (length h + p) (suc (length h + p))) (h ++ cs)) a.0 ∙ take-past is p h cs a.1)
  where
    more : (n k : ℕ) → suc n + k ≡ suc (n + k)
    more n k = omega arith

pub drop-past : (is : Cell → Bool) (p : ℕ) (h cs : List Cell) → AllAre is true h → drop_by is (length h + p) (h ++ cs) ≡ drop_by is p cs
unfolding AllAre
drop-past is p [] cs a = grind arith
drop-past is p (c ∷ h) cs a =
    ap (λ k. drop_by is k (c ∷ h ++ cs)) (more (length h) p)
    ∙ (ap (λ b. drop_by is (cond b (length h + p) (suc (length h + p))) (h ++ cs)) a.0 ∙ drop-past is p h cs a.1)
  where
    more : (n k : ℕ) → suc n + k ≡ suc (n + k)
    more n k = omega arith

-- within a block that counts
pub take-within : (is : Cell → Bool) (p : ℕ) (h cs : List Cell) → AllAre is true h → p ≤ length h → take_by is p (h ++ cs) ≡ take p h
unfolding AllAre
take-within is zero h cs a l = refl
take-within is (suc p) [] cs a l = absurd (omega (arith, l))
take-within is (suc p) (c ∷ h) cs a l =
    ap (λ z. c ∷ z) (ap (λ b. take_by is (cond b p (suc p)) (h ++ cs)) a.0 ∙ take-within is p h cs a.1 (omega (arith, l)))

pub drop-within : (is : Cell → Bool) (p : ℕ) (h cs : List Cell) → AllAre is true h → p ≤ length h → drop_by is p (h ++ cs) ≡ drop p h ++ cs
unfolding AllAre
drop-within is zero h cs a l = refl
drop-within is (suc p) [] cs a l = absurd (omega (arith, l))
drop-within is (suc p) (c ∷ h) cs a l =
    ap (λ b. drop_by is (cond b p (suc p)) (h ++ cs)) a.0 ∙ drop-within is p h cs a.1 (omega (arith, l))

-- past a block of which nothing counts
pub take-over : (is : Cell → Bool) (p : ℕ) (h cs : List Cell) → AllAre is false h → take_by is (suc p) (h ++ cs) ≡ h ++ take_by is (suc p) cs
unfolding AllAre
take-over is p [] cs a = refl
take-over is p (c ∷ h) cs a = ap (λ z. c ∷ z) (ap (λ b. take_by is (cond b p (suc p)) (h ++ cs)) a.0 ∙ take-over is p h cs a.1)

pub drop-over : (is : Cell → Bool) (p : ℕ) (h cs : List Cell) → AllAre is false h → drop_by is (suc p) (h ++ cs) ≡ drop_by is (suc p) cs
unfolding AllAre
drop-over is p [] cs a = refl
drop-over is p (c ∷ h) cs a = ap (λ b. drop_by is (cond b p (suc p)) (h ++ cs)) a.0 ∙ drop-over is p h cs a.1

-- ## A run is such a block

held-all : (v : Side) (n : ℕ) (d : Option ℕ) (r : PartialText) → AllAre (counts v) (run_counts v (Held n d)) (map (held d) r)
unfolding AllAre
held-all Below n d [] = tt
held-all Below n d (m ∷ r) = (refl, held-all Below n d r)
held-all Above n d [] = tt
held-all Above n d (m ∷ r) = (refl, held-all Above n d r)

typed-all : (v : Side) (s : List ℕ) (t : Stretch) (g : ℕ) (d : Option ℕ) → AllAre (counts v) (run_counts v (Typed t g d)) (map (typed_by g d) s)
unfolding AllAre
typed-all Below [] t g d = tt
typed-all Below (c ∷ s) t g d = (refl, typed-all Below s t g d)
typed-all Above [] t g d = tt
typed-all Above (c ∷ s) t g d = (refl, typed-all Above s t g d)

pub run-all : (v : Side) (x : Run) (text : List ℕ) (r : PartialText) → AllAre (counts v) (run_counts v x) (cells text r x)
run-all v (Held n d) text r = held-all v n d (take n r)
run-all v (Typed s g d) text r = typed-all v (runes_of text s) s g d

pub runes-size : (text : List ℕ) (s : Stretch) → s.start + s.count ≤ length text → length (runes_of text s) ≡ s.count
runes-size text s l = length-take-le s.count (drop s.start text) (omega (arith, l, length-drop s.start text))

pub run-size : (x : Run) (text : List ℕ) (r : PartialText) → reach x ≤ length text → room x ≤ length r → length (cells text r x) ≡ size x
run-size (Held n d) text r w l = length-map (take n r) (held d) ∙ length-take-le n r l
run-size (Typed s g d) text r w l = length-map (runes_of text s) (typed_by g d) ∙ runes-size text s w

run-head : (k : ℕ) (x : Run) (text : List ℕ) (r : PartialText) → k ≤ size x → cells text r (head_of k x) ≡ take k (cells text r x)
run-head k (Held n d) text r l = grind (arith, take-map, take-take)
run-head k (Typed s g d) text r l = grind (arith, take-map, take-take)

-- a part of a part
part-tail : {X : Type 0} (k n : ℕ) (r : List X) → k ≤ n → take (n - k) (drop k r) ≡ drop k (take n r)
part-tail k n r l =
    let e : k + (n - k) ≡ n = omega (arith, l) in
    sym (drop-take k (n - k) r) ∙ ap (λ j. drop k (take j r)) e

pub run-tail : (k : ℕ) (x : Run) (text : List ℕ) (r : PartialText) → k ≤ size x → cells text (drop (room (head_of k x)) r) (tail_of k x) ≡ drop k (cells text r x)
run-tail k (Held n d) text r l = ap (map (held d)) (part-tail k n r l) ∙ sym (drop-map (held d) k (take n r))
run-tail k (Typed s g d) text r l =
    ap (map (typed_by g d)) (ap (take (s.count - k)) (ap (λ j. drop j text) (omega arith) ∙ sym (drop-drop k s.start text)) ∙ part-tail k s.count (drop s.start text) l)
    ∙ sym (drop-map (typed_by g d) k (runes_of text s))

pub run-rooms : (k : ℕ) (x : Run) → k ≤ size x → room (head_of k x) + room (tail_of k x) ≡ room x
run-rooms k (Held n d) l = omega (arith, l)
run-rooms k (Typed s g d) l = refl

-- ## Runs up to a place and behind it

-- f are the runs up to the place p of xs, and b those behind it
pub record Split (v : Side) (p : ℕ) (xs f b : List Run) (text : List ℕ) (r : PartialText) : Type 0 where
  pub head : cells_of text r f ≡ take_by (counts v) p (cells_of text r xs)
  pub rest : cells_of text (drop (rooms f) r) b ≡ drop_by (counts v) p (cells_of text r xs)
  pub whole : rooms f + rooms b ≡ rooms xs

take_by-none : (is : Cell → Bool) (p : ℕ) → take_by is p [] ≡ []
take_by-none is zero = refl
take_by-none is (suc p) = refl

drop_by-none : (is : Cell → Bool) (p : ℕ) → drop_by is p [] ≡ []
drop_by-none is zero = refl
drop_by-none is (suc p) = refl

split-none : (v : Side) (xs : List Run) (text : List ℕ) (r : PartialText) → Split v 0 xs [] xs text r
split-none v xs text r = record { head = refl; rest = refl; whole = omega arith }

split-end : (v : Side) (p : ℕ) (text : List ℕ) (r : PartialText) → Split v p [] [] [] text r
split-end v p text r = record { head = sym (take_by-none (counts v) p); rest = sym (drop_by-none (counts v) p); whole = refl }

-- drop by the parts of a sum
pub drop-more : {X : Type 0} (n k : ℕ) (r : List X) → drop (n + k) r ≡ drop k (drop n r)
drop-more n k r = ap (λ j. drop j r) (omega arith) ∙ sym (drop-drop k n r)

split-past : (v : Side) (p : ℕ) (x : Run) (xs f b : List Run) (text : List ℕ) (r : PartialText) → reach x ≤ length text → room x ≤ length r → run_counts v x ≡ true
    → Split v p xs f b text (drop (room x) r) → Split v (size x + p) (x ∷ xs) (x ∷ f) b text r
split-past v p x xs f b text r i l t h =
    let c = cells_of text (drop (room x) r) xs in
    let all : AllAre (counts v) true (cells text r x) = subst (λ z. AllAre (counts v) z (cells text r x)) t (run-all v x text r) in
    let n : length (cells text r x) + p ≡ size x + p = ap (λ k. k + p) (run-size x text r i l) in
    record {
      head = ap (λ z. cells text r x ++ z) h.head ∙ (sym (take-past (counts v) p (cells text r x) c all) ∙ ap (λ k. take_by (counts v) k (cells text r x ++ c)) n);
      rest = ap (λ z. cells_of text z b) (drop-more (room x) (rooms f) r) ∙ (h.rest ∙ (sym (drop-past (counts v) p (cells text r x) c all) ∙ ap (λ k. drop_by (counts v) k (cells text r x ++ c)) n));
      whole = omega (arith, h.whole);
    }

split-over : (v : Side) (p : ℕ) (x : Run) (xs f b : List Run) (text : List ℕ) (r : PartialText) → run_counts v x ≡ false
    → Split v (suc p) xs f b text (drop (room x) r) → Split v (suc p) (x ∷ xs) (x ∷ f) b text r
split-over v p x xs f b text r t h =
    let c = cells_of text (drop (room x) r) xs in
    let all : AllAre (counts v) false (cells text r x) = subst (λ z. AllAre (counts v) z (cells text r x)) t (run-all v x text r) in
    record {
      head = ap (λ z. cells text r x ++ z) h.head ∙ sym (take-over (counts v) p (cells text r x) c all);
      rest = ap (λ z. cells_of text z b) (drop-more (room x) (rooms f) r) ∙ (h.rest ∙ sym (drop-over (counts v) p (cells text r x) c all));
      whole = omega (arith, h.whole);
    }

split-within : (v : Side) (p : ℕ) (x : Run) (xs : List Run) (text : List ℕ) (r : PartialText) → reach x ≤ length text → room x ≤ length r → run_counts v x ≡ true → p ≤ size x
    → Split v p (x ∷ xs) (head_of p x ∷ []) (tail_of p x ∷ xs) text r
split-within v p x xs text r i l t w =
    let c = cells_of text (drop (room x) r) xs in
    let all : AllAre (counts v) true (cells text r x) = subst (λ z. AllAre (counts v) z (cells text r x)) t (run-all v x text r) in
    let in_it : p ≤ length (cells text r x) = omega (arith, w, run-size x text r i l) in
    let room_of = run-rooms p x w in
    let back_to : drop (room (tail_of p x)) (drop (room (head_of p x) + 0) r) ≡ drop (room x) r =
    sym (drop-more (room (head_of p x) + 0) (room (tail_of p x)) r) ∙ ap (λ j. drop j r) (omega (arith, room_of)) in
    record {
      head = append-nil (cells text r (head_of p x)) ∙ (run-head p x text r w ∙ sym (take-within (counts v) p (cells text r x) c all in_it));
      rest = ap (λ z. cells text (drop z r) (tail_of p x) ++ cells_of text (drop (room (tail_of p x)) (drop (room (head_of p x) + 0) r)) xs) (omega arith)
          ∙ (ap (λ z. z ++ cells_of text (drop (room (tail_of p x)) (drop (room (head_of p x) + 0) r)) xs) (run-tail p x text r w)
          ∙ (ap (λ z. drop p (cells text r x) ++ cells_of text z xs) back_to ∙ sym (drop-within (counts v) p (cells text r x) c all in_it)));
      whole = omega (arith, room_of);
    }

pub split : (v : Side) (p : ℕ) (xs : List Run) (text : List ℕ) (r : PartialText) → Within (length text) xs → rooms xs ≤ length r → Split v p xs (front v p xs) (back v p xs) text r
split v zero xs text r w l = split-none v xs text r
split v (suc p) [] text r w l = split-end v (suc p) text r
split v (suc p) (x ∷ xs) text r w l =
    let behind : rooms xs ≤ length (drop (room x) r) = omega (arith, l, length-drop (room x) r) in
    step (run_counts v x) (nat_le (size x) (suc p)) refl refl (split v (suc p - size x) xs text (drop (room x) r) w.1 behind) (split v (suc p) xs text (drop (room x) r) w.1 behind)
  where
    step : (t n : Bool) → run_counts v x ≡ t → nat_le (size x) (suc p) ≡ n
        → Split v (suc p - size x) xs (front v (suc p - size x) xs) (back v (suc p - size x) xs) text (drop (room x) r)
        → Split v (suc p) xs (front v (suc p) xs) (back v (suc p) xs) text (drop (room x) r)
        → Split v (suc p) (x ∷ xs)
        (cond t (cond n (x ∷ front v (suc p - size x) xs) (head_of (suc p) x ∷ [])) (x ∷ front v (suc p) xs))
        (cond t (cond n (back v (suc p - size x) xs) (tail_of (suc p) x ∷ xs)) (back v (suc p) xs)) text r
    step true true t n h i =
        let le : size x ≤ suc p = leb-true (size x) (suc p) n in
        let e : size x + (suc p - size x) ≡ suc p = omega (arith, le) in
        subst (λ k. Split v k (x ∷ xs) (x ∷ front v (suc p - size x) xs) (back v (suc p - size x) xs) text r) e
        (split-past v (suc p - size x) x xs (front v (suc p - size x) xs) (back v (suc p - size x) xs) text r w.0 (omega (arith, l)) t h)
    step true false t n h i =
        let le : suc p ≤ size x = grind (arith, n, leb_tells) in
        split-within v (suc p) x xs text r w.0 (omega (arith, l)) t le
    step false n t m h i = split-over v p x xs (front v (suc p) xs) (back v (suc p) xs) text r t i

-- ## What the runs take of the text

within-head : (k n : ℕ) (x : Run) → k ≤ size x → reach x ≤ n → reach (head_of k x) ≤ n
within-head k n (Held m d) l w = omega arith
within-head k n (Typed s g d) l w = omega (arith, l, w)

pub within-tail : (k n : ℕ) (x : Run) → k ≤ size x → reach x ≤ n → reach (tail_of k x) ≤ n
within-tail k n (Held m d) l w = omega arith
within-tail k n (Typed s g d) l w = omega (arith, l, w)

pub within-front : (v : Side) (p : ℕ) (xs : List Run) (n : ℕ) → Within n xs → Within n (front v p xs)
within-front v zero xs n w = tt
within-front v (suc p) [] n w = tt
within-front v (suc p) (x ∷ xs) n w = step (run_counts v x) (nat_le (size x) (suc p)) refl (within-front v (suc p - size x) xs n w.1) (within-front v (suc p) xs n w.1)
  where
    step : (t u : Bool) → nat_le (size x) (suc p) ≡ u → Within n (front v (suc p - size x) xs) → Within n (front v (suc p) xs)
        → Within n (cond t (cond u (x ∷ front v (suc p - size x) xs) (head_of (suc p) x ∷ [])) (x ∷ front v (suc p) xs))
    step true true e h i = (w.0, h)
    step true false e h i = let l : suc p ≤ size x = grind (arith, e, leb_tells) in (within-head (suc p) n x l w.0, tt)
    step false u e h i = (w.0, i)

pub within-back : (v : Side) (p : ℕ) (xs : List Run) (n : ℕ) → Within n xs → Within n (back v p xs)
within-back v zero xs n w = w
within-back v (suc p) [] n w = tt
within-back v (suc p) (x ∷ xs) n w = step (run_counts v x) (nat_le (size x) (suc p)) refl (within-back v (suc p - size x) xs n w.1) (within-back v (suc p) xs n w.1)
  where
    step : (t u : Bool) → nat_le (size x) (suc p) ≡ u → Within n (back v (suc p - size x) xs) → Within n (back v (suc p) xs)
        → Within n (cond t (cond u (back v (suc p - size x) xs) (tail_of (suc p) x ∷ xs)) (back v (suc p) xs))
    step true true e h i = h
    step true false e h i = let l : suc p ≤ size x = grind (arith, e, leb_tells) in (within-tail (suc p) n x l w.0, w.1)
    step false u e h i = i

pub within-append : (n : ℕ) (a b : List Run) → Within n a → Within n b → Within n (a ++ b)
within-append n [] b v w = w
within-append n (x ∷ a) b v w = (v.0, within-append n a b v.1 w)

-- a longer text
pub within-more : (n m : ℕ) (xs : List Run) → n ≤ m → Within n xs → Within m xs
within-more n m [] l w = tt
within-more n m (x ∷ xs) l w = (omega (arith, l, w.0), within-more n m xs l w.1)

-- ## Steps of the walk

-- the run x, where the place is p further on than its start
pub sort_past : (v : Side) (p : ℕ) (x : Run) → 0 < p → run_counts v x ≡ true → size x ≤ p → (xs : List Run)
    → (front v p (x ∷ xs) ≡ x ∷ front v (p - size x) xs) × (back v p (x ∷ xs) ≡ back v (p - size x) xs)
sort_past v zero x h t l xs = absurd (omega (arith, h))
sort_past v (suc p) x h t l xs =
    let n = le-leb (size x) (suc p) l in
    (rw (t, n) refl, rw (t, n) refl)

pub sort_over : (v : Side) (p : ℕ) (x : Run) → 0 < p → run_counts v x ≡ false → (xs : List Run)
    → (front v p (x ∷ xs) ≡ x ∷ front v p xs) × (back v p (x ∷ xs) ≡ back v p xs)
sort_over v zero x h t xs = absurd (omega (arith, h))
sort_over v (suc p) x h t xs = (rw t refl, rw t refl)

pub sort_within : (v : Side) (p : ℕ) (x : Run) → 0 < p → run_counts v x ≡ true → p < size x → (xs : List Run)
    → (front v p (x ∷ xs) ≡ head_of p x ∷ []) × (back v p (x ∷ xs) ≡ tail_of p x ∷ xs)
sort_within v zero x h t l xs = absurd (omega (arith, h))
sort_within v (suc p) x h t l xs =
    let n : nat_le (size x) (suc p) ≡ false = grind (arith, l, leb_tells) in
    (rw (t, n) refl, rw (t, n) refl)

pub ruleset sort_facts = (sort_past, sort_over, sort_within, append_assoc, append-nil)

-- no runs, wherever the place is
pub front-none : (v : Side) (p : ℕ) → front v p [] ≡ []
front-none v zero = refl
front-none v (suc p) = refl

pub back-none : (v : Side) (p : ℕ) → back v p [] ≡ []
back-none v zero = refl
back-none v (suc p) = refl

pub ruleset split_facts = (append-nil, front-none, back-none)

pub ruleset gone_facts = (append-nil, append_assoc)

-- ## Runs that are put together

pub cells_of-append : (text : List ℕ) (r : PartialText) (a b : List Run) → cells_of text r (a ++ b) ≡ cells_of text r a ++ cells_of text (drop (rooms a) r) b
cells_of-append text r [] b = refl
cells_of-append text r (x ∷ a) b =
    ap (λ z. cells text r x ++ z) (cells_of-append text (drop (room x) r) a b)
    ∙ (sym (append_assoc (cells text r x) (cells_of text (drop (room x) r) a) (cells_of text (drop (rooms a) (drop (room x) r)) b))
    ∙ ap (λ z. cells text r x ++ cells_of text (drop (room x) r) a ++ cells_of text z b) (sym (drop-more (room x) (rooms a) r)))

pub rooms-append : (a b : List Run) → rooms (a ++ b) ≡ rooms a + rooms b
rooms-append [] b = omega arith
rooms-append (x ∷ a) b = omega (arith, rooms-append a b)

-- only the members that they hold matter
pub cells_of-same : (a : List Run) (text : List ℕ) (r t : PartialText) → take (rooms a) r ≡ take (rooms a) t → cells_of text r a ≡ cells_of text t a
cells_of-same [] text r t e = refl
cells_of-same (Held n d ∷ a) text r t e =
    let shorter : (u : PartialText) → take n u ≡ take n (take (n + rooms a) u) = λ u. sym (take-take n (n + rooms a) u (omega arith)) in
    let first : take n r ≡ take n t = shorter r ∙ (ap (take n) e ∙ sym (shorter t)) in
    let rest : take (rooms a) (drop n r) ≡ take (rooms a) (drop n t) = sym (drop-take n (rooms a) r) ∙ (ap (drop n) e ∙ drop-take n (rooms a) t) in
    ap (λ z. map (held d) z ++ cells_of text (drop n r) a) first ∙ ap (λ z. map (held d) (take n t) ++ z) (cells_of-same a text (drop n r) (drop n t) rest)
cells_of-same (Typed s g d ∷ a) text r t e =
    let n : 0 + rooms a ≡ rooms a = omega arith in
    ap (λ z. map (typed_by g d) (runes_of text s) ++ z) (cells_of-same a text r t (subst (λ k. take k r ≡ take k t) n e))

pub take-front : {X : Type 0} (a b : List X) → take (length a) (a ++ b) ≡ a
take-front [] b = refl
take-front (x ∷ a) b = ap (λ z. x ∷ z) (take-front a b)

pub drop-front : {X : Type 0} (a b : List X) → drop (length a) (a ++ b) ≡ b
drop-front [] b = refl
drop-front (x ∷ a) b = drop-front a b

pub take-whole : {X : Type 0} (a : List X) → take (length a) a ≡ a
take-whole [] = refl
take-whole (x ∷ a) = ap (λ z. x ∷ z) (take-whole a)

-- runs of a front, over it and more
pub cells_of-front : (text : List ℕ) (r z : PartialText) (a : List Run) → rooms a ≡ length r → cells_of text (r ++ z) a ≡ cells_of text r a
cells_of-front text r z a e =
    cells_of-same a text (r ++ z) r (ap (λ k. take k (r ++ z)) e ∙ (take-front r z ∙ (sym (take-whole r) ∙ ap (λ k. take k r) (sym e))))

pub joined : (text : List ℕ) (r m z : PartialText) (f k b : List Run) → rooms f ≡ length r → rooms k ≡ length m
    → cells_of text (r ++ m ++ z) (f ++ k ++ b) ≡ cells_of text r f ++ cells_of text m k ++ cells_of text z b
joined text r m z f k b e u =
    let both : rooms (f ++ k) ≡ length (r ++ m) = omega (arith, rooms-append f k, length-append r m, e, u) in
    cells_of-append text (r ++ m ++ z) (f ++ k) b
    ∙ (ap (λ y. y ++ cells_of text (drop (rooms (f ++ k)) (r ++ m ++ z)) b)
    (cells_of-front text (r ++ m) z (f ++ k) both ∙ (cells_of-append text (r ++ m) f k
    ∙ (ap (λ y. y ++ cells_of text (drop (rooms f) (r ++ m)) k) (cells_of-front text r m f e)
    ∙ ap (λ y. cells_of text r f ++ cells_of text y k) (ap (λ n. drop n (r ++ m)) e ∙ drop-front r m))))
    ∙ ap (λ y. cells_of text r f ++ cells_of text m k ++ cells_of text y b) (ap (λ n. drop n (r ++ m ++ z)) both ∙ drop-front (r ++ m) z))

pub rooms-front : (p : ℕ) (xs : List Run) → p ≤ rooms xs → rooms (front Below p xs) ≡ p
rooms-front zero xs l = refl
rooms-front (suc p) [] l = absurd (omega (arith, l))
rooms-front (suc p) (Typed s g d ∷ xs) l = omega (arith, rooms-front (suc p) xs (omega (arith, l)))
rooms-front (suc p) (Held n d ∷ xs) l = step (nat_le n (suc p)) refl (λ w. rooms-front (suc p - n) xs (omega (arith, l, w)))
  where
    step : (t : Bool) → nat_le n (suc p) ≡ t → (n ≤ suc p → rooms (front Below (suc p - n) xs) ≡ suc p - n)
        → rooms (cond t (Held n d ∷ front Below (suc p - n) xs) (Held (suc p) d ∷ [])) ≡ suc p
    step true e h = let w = leb-true n (suc p) e in omega (arith, w, h w)
    step false e h = omega arith

-- the members before a place
pub cells-before : (text : List ℕ) (r : PartialText) (p : ℕ) (f : List Run) → rooms f ≡ p → cells_of text (take p r) f ≡ cells_of text r f
cells-before text r p f e = cells_of-same f text (take p r) r (ap (λ k. take k (take p r)) e ∙ (take-take p p r (omega arith) ∙ ap (λ k. take k r) (sym e)))

pub inserted_runs : (xs : List Run) (text : List ℕ) (p n : ℕ) (r new : PartialText) → Within (length text) xs → rooms xs ≡ length r → p ≤ length r → length new ≡ n
    → cells_of text (take p r ++ new ++ drop p r) (front Below p xs ++ Held n None ∷ [] ++ back Below p xs) ≡ inserted p new (cells_of text r xs)
inserted_runs xs text p n r new w e l u =
    let f = front Below p xs in
    let s = split Below p xs text r w (omega (arith, e)) in
    let a : rooms f ≡ p = rooms-front p xs (omega (arith, e, l)) in
    let m : map (held None) (take n new) ++ [] ≡ resting new =
    append-nil (map (held None) (take n new)) ∙ ap (map (held None)) (ap (λ k. take k new) (sym u) ∙ take-whole new) in
    let z : p - p ≡ 0 = omega arith in
    joined text (take p r) new (drop p r) f (Held n None ∷ []) (back Below p xs) (omega (arith, a, length-take-le p r l)) (omega (arith, u))
    ∙ (ap (λ y. y ++ (map (held None) (take n new) ++ []) ++ cells_of text (drop p r) (back Below p xs)) (cells-before text r p f a ∙ s.head)
    ∙ (ap (λ y. take_by in_rasp p (cells_of text r xs) ++ y ++ cells_of text (drop p r) (back Below p xs)) m
    ∙ ap (λ y. take_by in_rasp p (cells_of text r xs) ++ resting new ++ y)
    (ap (λ k. cells_of text (drop k r) (back Below p xs)) (sym a) ∙ (s.rest ∙ ap (λ k. drop_by in_rasp k (drop_by in_rasp p (cells_of text r xs))) (sym z)))))

-- ## What waits

pub waiting-held : (d : Option ℕ) (r : PartialText) → waiting_of (map (held d) r) ≡ []
waiting-held d [] = refl
waiting-held d (m ∷ r) = waiting-held d r

pub waiting-typed : (g : ℕ) (d : Option ℕ) (s : List ℕ) → waiting_of (map (typed_by g d) s) ≡ map (typed_by g d) s
waiting-typed g d [] = refl
waiting-typed g d (c ∷ s) = ap (λ z. typed_by g d c ∷ z) (waiting-typed g d s)

waits-cells : (xs : List Run) (text : List ℕ) (r t : PartialText) → cells_of text t (waiting_runs xs) ≡ waiting_of (cells_of text r xs)
waits-cells [] text r t = refl
waits-cells (Held n d ∷ xs) text r t =
    waits-cells xs text (drop n r) t
    ∙ (ap (λ z. z ++ waiting_of (cells_of text (drop n r) xs)) (sym (waiting-held d (take n r)))
    ∙ sym (filter-append (λ c. not (in_rasp c)) (map (held d) (take n r)) (cells_of text (drop n r) xs)))
waits-cells (Typed s g d ∷ xs) text r t =
    ap (λ z. map (typed_by g d) (runes_of text s) ++ z) (waits-cells xs text r t)
    ∙ (ap (λ z. z ++ waiting_of (cells_of text r xs)) (sym (waiting-typed g d (runes_of text s)))
    ∙ sym (filter-append (λ c. not (in_rasp c)) (map (typed_by g d) (runes_of text s)) (cells_of text r xs)))

pub rooms-waiting : (xs : List Run) → rooms (waiting_runs xs) ≡ 0
rooms-waiting [] = refl
rooms-waiting (Held n d ∷ xs) = rooms-waiting xs
rooms-waiting (Typed s g d ∷ xs) = omega (arith, rooms-waiting xs)

pub removed_runs : (xs : List Run) (text : List ℕ) (p q : ℕ) (r : PartialText) → p ≤ q → Within (length text) xs → rooms xs ≡ length r → q ≤ length r
    → cells_of text (take p r ++ drop q r) (front Below p xs ++ waiting_runs (front Below (q - p) (back Below p xs)) ++ back Below (q - p) (back Below p xs))
    ≡ removed p q (cells_of text r xs)
removed_runs xs text p q r o w e l =
    let f = front Below p xs in
    let b = back Below p xs in
    let m = front Below (q - p) b in
    let c = back Below (q - p) b in
    let s = split Below p xs text r w (omega (arith, e)) in
    let a : rooms f ≡ p = rooms-front p xs (omega (arith, e, l, o)) in
    let behind : rooms b ≤ length (drop (rooms f) r) = omega (arith, s.whole, e, length-drop (rooms f) r) in
    let t = split Below (q - p) b text (drop (rooms f) r) (within-back Below p xs (length text) w) behind in
    let am : rooms m ≡ q - p = rooms-front (q - p) b (omega (arith, s.whole, e, l, a)) in
    let last : drop q r ≡ drop (rooms m) (drop (rooms f) r) = ap (λ k. drop k r) (omega (arith, a, am, o)) ∙ drop-more (rooms f) (rooms m) r in
    let part : cells_of text (drop (rooms f) r) m ≡ part_by in_rasp p q (cells_of text r xs) = t.head ∙ ap (take_by in_rasp (q - p)) s.rest in
    let kept : cells_of text [] (waiting_runs m) ≡ waiting_of (part_by in_rasp p q (cells_of text r xs)) = waits-cells m text (drop (rooms f) r) [] ∙ ap waiting_of part in
    let rest : cells_of text (drop q r) c ≡ drop_by in_rasp (q - p) (drop_by in_rasp p (cells_of text r xs)) = ap (λ z. cells_of text z c) last ∙ (t.rest ∙ ap (drop_by in_rasp (q - p)) s.rest) in
    ap (λ z. cells_of text (z ++ drop q r) (f ++ waiting_runs m ++ c)) (sym (append-nil (take p r)))
    ∙ (joined text (take p r) [] (drop q r) f (waiting_runs m) c (omega (arith, a, length-take-le p r (omega (arith, o, l)))) (rooms-waiting m)
    ∙ (ap (λ y. y ++ cells_of text [] (waiting_runs m) ++ cells_of text (drop q r) c) (cells-before text r p f a ∙ s.head)
    ∙ (ap (λ y. take_by in_rasp p (cells_of text r xs) ++ y ++ cells_of text (drop q r) c) kept
    ∙ ap (λ y. take_by in_rasp p (cells_of text r xs) ++ waiting_of (part_by in_rasp p q (cells_of text r xs)) ++ y) rest)))

-- ## What dies

dying-append : (g : ℕ) (a b : List Cell) → dying g (a ++ b) ≡ dying g a ++ dying g b
dying-append g [] b = refl
dying-append g (c ∷ a) b = step (is_shown c) (is_group g c.born) (dying-append g a b)
  where
    step : (t u : Bool) → dying g (a ++ b) ≡ dying g a ++ dying g b
        → cond t (cond u (dying g (a ++ b)) (record { member = c.member; born = c.born; died = Some g } ∷ dying g (a ++ b))) (c ∷ dying g (a ++ b))
        ≡ cond t (cond u (dying g a) (record { member = c.member; born = c.born; died = Some g } ∷ dying g a)) (c ∷ dying g a) ++ dying g b
    step true true e = e
    step true false e = ap (λ z. record { member = c.member; born = c.born; died = Some g } ∷ z) e
    step false u e = ap (λ z. c ∷ z) e

dying-held-shown : (g : ℕ) (r : PartialText) → dying g (map (held None) r) ≡ map (held (Some g)) r
dying-held-shown g [] = refl
dying-held-shown g (m ∷ r) = ap (λ z. held (Some g) m ∷ z) (dying-held-shown g r)

dying-held-gone : (g h : ℕ) (r : PartialText) → dying g (map (held (Some h)) r) ≡ map (held (Some h)) r
dying-held-gone g h [] = refl
dying-held-gone g h (m ∷ r) = ap (λ z. held (Some h) m ∷ z) (dying-held-gone g h r)

dying-typed-gone : (g b h : ℕ) (s : List ℕ) → dying g (map (typed_by b (Some h)) s) ≡ map (typed_by b (Some h)) s
dying-typed-gone g b h [] = refl
dying-typed-gone g b h (c ∷ s) = ap (λ z. typed_by b (Some h) c ∷ z) (dying-typed-gone g b h s)

dying-typed-own : (g b : ℕ) (s : List ℕ) → nat_eq g b ≡ true → dying g (map (typed_by b None) s) ≡ []
dying-typed-own g b [] e = refl
dying-typed-own g b (c ∷ s) e = rw e (dying-typed-own g b s e)

dying-typed-other : (g b : ℕ) (s : List ℕ) → nat_eq g b ≡ false → dying g (map (typed_by b None) s) ≡ map (typed_by b (Some g)) s
dying-typed-other g b [] e = refl
dying-typed-other g b (c ∷ s) e = rw e (ap (λ z. typed_by b (Some g) c ∷ z) (dying-typed-other g b s e))

-- one run, and the runs behind it
dies-run : (g : ℕ) (x : Run) (text : List ℕ) (r : PartialText) (xs : List Run)
    → (cells_of text r (dying_run g x ++ xs) ≡ dying g (cells text r x) ++ cells_of text (drop (room x) r) xs) × (rooms (dying_run g x ++ xs) ≡ room x + rooms xs)
dies-run g (Held n None) text r xs = (ap (λ z. z ++ cells_of text (drop n r) xs) (sym (dying-held-shown g (take n r))), refl)
dies-run g (Held n (Some h)) text r xs = (ap (λ z. z ++ cells_of text (drop n r) xs) (sym (dying-held-gone g h (take n r))), refl)
dies-run g (Typed s b (Some h)) text r xs = (ap (λ z. z ++ cells_of text r xs) (sym (dying-typed-gone g b h (runes_of text s))), refl)
dies-run g (Typed s b None) text r xs = step (nat_eq g b) refl
  where
    step : (t : Bool) → nat_eq g b ≡ t
        → (cells_of text r (cond t [] (Typed s b (Some g) ∷ []) ++ xs) ≡ dying g (map (typed_by b None) (runes_of text s)) ++ cells_of text r xs)
        × (rooms (cond t [] (Typed s b (Some g) ∷ []) ++ xs) ≡ 0 + rooms xs)
    step true e = (ap (λ z. z ++ cells_of text r xs) (sym (dying-typed-own g b (runes_of text s) e)), omega arith)
    step false e = (ap (λ z. z ++ cells_of text r xs) (sym (dying-typed-other g b (runes_of text s) e)), refl)

pub dies : (g : ℕ) (xs : List Run) (text : List ℕ) (r : PartialText) → (cells_of text r (dying_runs g xs) ≡ dying g (cells_of text r xs)) × (rooms (dying_runs g xs) ≡ rooms xs)
dies g [] text r = (refl, refl)
dies g (x ∷ xs) text r =
    let h = dies g xs text (drop (room x) r) in
    let o = dies-run g x text r (dying_runs g xs) in (
      o.0 ∙ (ap (λ z. dying g (cells text r x) ++ z) h.0 ∙ sym (dying-append g (cells text r x) (cells_of text (drop (room x) r) xs))),
      omega (arith, o.1, h.1),
    )

-- s stands in the text at the stretch n
pub replaced_runs : (xs : List Run) (text : List ℕ) (g p q : ℕ) (n : Stretch) (r : PartialText) → Within (length text) xs → rooms xs ≡ length r
    → cells_of text r (front Above p xs ++ Typed n g None ∷ [] ++ dying_runs g (front Above (q - p) (back Above p xs)) ++ back Above (q - p) (back Above p xs))
    ≡ replaced g p q (runes_of text n) (cells_of text r xs)
replaced_runs xs text g p q n r w e =
    let f = front Above p xs in
    let b = back Above p xs in
    let m = front Above (q - p) b in
    let c = back Above (q - p) b in
    let s = runes_of text n in
    let h = split Above p xs text r w (omega (arith, e)) in
    let behind : rooms b ≤ length (drop (rooms f) r) = omega (arith, h.whole, e, length-drop (rooms f) r) in
    let t = split Above (q - p) b text (drop (rooms f) r) (within-back Above p xs (length text) w) behind in
    let part : cells_of text (drop (rooms f) r) m ≡ part_by is_shown p q (cells_of text r xs) = t.head ∙ ap (take_by is_shown (q - p)) h.rest in
    let d = dies g m text (drop (rooms f) r) in
    let k = Typed n g None ∷ dying_runs g m in
    let same : f ++ Typed n g None ∷ [] ++ dying_runs g m ++ c ≡ f ++ (k ++ c) =
    ap (λ z. z ++ c) (append_assoc f (Typed n g None ∷ []) (dying_runs g m)) ∙ append_assoc f k c in
    let rk : rooms k ≡ rooms m = omega (arith, d.1) in
    let middle : cells_of text (drop (rooms f) r) k ≡ map (typed_by g None) s ++ dying g (part_by is_shown p q (cells_of text r xs)) =
    ap (λ z. map (typed_by g None) s ++ z) (d.0 ∙ ap (dying g) part) in
    let rest : cells_of text (drop (rooms k) (drop (rooms f) r)) c ≡ drop_by is_shown (q - p) (drop_by is_shown p (cells_of text r xs)) =
    ap (λ j. cells_of text (drop j (drop (rooms f) r)) c) rk ∙ (t.rest ∙ ap (drop_by is_shown (q - p)) h.rest) in
    ap (cells_of text r) same
    ∙ (cells_of-append text r f (k ++ c)
    ∙ (ap (λ z. cells_of text r f ++ z) (cells_of-append text (drop (rooms f) r) k c)
    ∙ (sym (append_assoc (cells_of text r f) (cells_of text (drop (rooms f) r) k) (cells_of text (drop (rooms k) (drop (rooms f) r)) c))
    ∙ (ap (λ z. z ++ cells_of text (drop (rooms f) r) k ++ cells_of text (drop (rooms k) (drop (rooms f) r)) c) h.head
    ∙ (ap (λ z. take_by is_shown p (cells_of text r xs) ++ z ++ cells_of text (drop (rooms k) (drop (rooms f) r)) c) middle
    ∙ ap (λ z. take_by is_shown p (cells_of text r xs) ++ (map (typed_by g None) s ++ dying g (part_by is_shown p q (cells_of text r xs))) ++ z) rest)))))
