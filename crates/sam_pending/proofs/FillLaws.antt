-- Members of the rasp that are loaded.
use Rattle.std.proofs.Common.{◌≡◌, refl, sym, ap, ◌∙◌, ℕ, ◌+◌, ◌≤◌, List, [], ◌∷◌, ◌++◌, map, length, take, drop, reverse, Option, Some, None, arith, append_assoc, length-append, length-drop, length-take-le}
use Rattle.std.proofs.lemmas.List.{length-map, take-map, drop-map}
use Rattle.sam_pending.specs.Cells.{PartialText, Cell, Change, all_put, in_rasp, is_shown, shown_of, take_by, drop_by, loaded, filled}
use Rattle.sam_pending.specs.Runs.{counts, held, typed_by, runes_of, rooms, cells_of, Within, front, back, above, filled_runs, filling_changes}
use Rattle.sam_pending.specs.declared.run.Run.{Run}
use Rattle.sam_pending.specs.declared.run.Run.TheVariants.{Held, Typed}
use Rattle.sam_pending.specs.declared.run.Side.{Side}
use Rattle.sam_pending.specs.declared.run.Side.TheVariants.{Below}
use Rattle.sam_pending.proofs.CellLaws.{members-append, take-drop-by, put-last}
use Rattle.sam_pending.proofs.RunLaws.{split, runes-size, within-front, within-back, rooms-front, cells_of-front, cells-before, drop-front, drop-more}
use Rattle.sam_pending.proofs.ShownLaws.{replaced-block, shown-held, shown-typed, placed}

loaded-held : (m : PartialText) (s : List ℕ) (d : Option ℕ) (c : List Cell) → length m ≤ length s
    → loaded s (map (held d) m ++ c) ≡ map (held d) (map Some (take (length m) s)) ++ loaded (drop (length m) s) c
loaded-held [] s d c l = refl
loaded-held (x ∷ m) [] d c l = absurd (omega (arith, l))
loaded-held (x ∷ m) (y ∷ s) d c l = ap (λ z. held d (Some y) ∷ z) (loaded-held m s d c (omega (arith, l)))

loaded-typed : (t : List ℕ) (g : ℕ) (d : Option ℕ) (s : List ℕ) (c : List Cell) → loaded s (map (typed_by g d) t ++ c) ≡ map (typed_by g d) t ++ loaded s c
loaded-typed t g d [] c = refl
loaded-typed [] g d (y ∷ s) c = refl
loaded-typed (x ∷ t) g d (y ∷ s) c = ap (λ z. typed_by g d x ∷ z) (loaded-typed t g d (y ∷ s) c)

loaded-runs : (xs : List Run) (text s : List ℕ) (r : PartialText) (c : List Cell) → rooms xs ≡ length s → rooms xs ≤ length r
    → loaded s (cells_of text r xs ++ c) ≡ cells_of text (map Some s) xs ++ c
loaded-runs [] text [] r c e l = refl
loaded-runs [] text (x ∷ s) r c e l = absurd (omega (arith, e))
loaded-runs (Held n d ∷ xs) text s r c e l =
    let m = take n r in
    let k = cells_of text (drop n r) xs in
    let size_of : length m ≡ n = length-take-le n r (omega (arith, l)) in
    ap (loaded s) (append_assoc (map (held d) m) k c)
    ∙ (loaded-held m s d (k ++ c) (omega (arith, size_of, e))
    ∙ (ap (λ j. map (held d) (map Some (take j s)) ++ loaded (drop j s) (k ++ c)) size_of
    ∙ (ap (λ z. map (held d) (map Some (take n s)) ++ z) (loaded-runs xs text (drop n s) (drop n r) c (omega (arith, e, length-drop n s)) (omega (arith, l, length-drop n r)))
    ∙ (ap (λ z. map (held d) z ++ (cells_of text (map Some (drop n s)) xs ++ c)) (sym (take-map Some n s))
    ∙ (ap (λ z. map (held d) (take n (map Some s)) ++ (cells_of text z xs ++ c)) (sym (drop-map Some n s))
    ∙ sym (append_assoc (map (held d) (take n (map Some s))) (cells_of text (drop n (map Some s)) xs) c))))))
loaded-runs (Typed t g d ∷ xs) text s r c e l =
    let m = runes_of text t in
    let k = cells_of text r xs in
    ap (loaded s) (append_assoc (map (typed_by g d) m) k c)
    ∙ (loaded-typed m g d s (k ++ c)
    ∙ (ap (λ z. map (typed_by g d) m ++ z) (loaded-runs xs text s r c (omega (arith, e)) (omega (arith, l)))
    ∙ sym (append_assoc (map (typed_by g d) m) (cells_of text (map Some s) xs) c)))

-- the cells up to a place and behind it
cells-split : (v : Side) (p : ℕ) (xs : List Run) (text : List ℕ) (r : PartialText) → Within (length text) xs → rooms xs ≤ length r
    → cells_of text r xs ≡ cells_of text r (front v p xs) ++ cells_of text (drop (rooms (front v p xs)) r) (back v p xs)
cells-split v p xs text r w l =
    let s = split v p xs text r w l in
    sym (take-drop-by (counts v) p (cells_of text r xs))
    ∙ sym (ap (λ z. z ++ cells_of text (drop (rooms (front v p xs)) r) (back v p xs)) s.head ∙ ap (λ z. take_by (counts v) p (cells_of text r xs) ++ z) s.rest)

-- what the runs are, before and after the members from place p on are loaded
pub record Fills (xs : List Run) (text : List ℕ) (p n : ℕ) (r : PartialText) (s : List ℕ) : Type 0 where
  pub before : cells_of text r (front Below p xs) ≡ take_by in_rasp p (cells_of text r xs)
  pub old : cells_of text r xs ≡ cells_of text r (front Below p xs)
      ++ (cells_of text (drop p r) (front Below n (back Below p xs)) ++ cells_of text (drop (p + n) r) (back Below n (back Below p xs)))
  pub new : filled p s (cells_of text r xs) ≡ cells_of text r (front Below p xs)
      ++ (cells_of text (map Some s) (front Below n (back Below p xs)) ++ cells_of text (drop (p + n) r) (back Below n (back Below p xs)))
  pub cells : cells_of text (take p r ++ map Some s ++ drop (p + n) r) xs ≡ filled p s (cells_of text r xs)

pub fills : (xs : List Run) (text : List ℕ) (p n : ℕ) (r : PartialText) (s : List ℕ) → Within (length text) xs → rooms xs ≡ length r → p + n ≤ length r → length s ≡ n
    → Fills xs text p n r s
fills xs text p n r s w e l u =
    let f = front Below p xs in
    let b = back Below p xs in
    let m = front Below n b in
    let z = back Below n b in
    let cs = cells_of text r xs in
    let t = take p r ++ map Some s ++ drop (p + n) r in
    let wb = within-back Below p xs (length text) w in
    let h = split Below p xs text r w (omega (arith, e)) in
    let a : rooms f ≡ p = rooms-front p xs (omega (arith, e, l)) in
    let am : rooms m ≡ n = rooms-front n b (omega (arith, h.whole, e, l, a)) in
    let size_of : length (map Some s) ≡ n = length-map s Some ∙ u in
    let first : length (take p r) ≡ p = length-take-le p r (omega (arith, l)) in
    let lt : length t ≡ length r =
    omega (arith, length-append (take p r ++ map Some s) (drop (p + n) r), length-append (take p r) (map Some s), first, size_of, length-drop (p + n) r, l) in
    let rest : drop p t ≡ map Some s ++ drop (p + n) r =
    ap (drop p) (append_assoc (take p r) (map Some s) (drop (p + n) r)) ∙ (ap (λ j. drop j (take p r ++ (map Some s ++ drop (p + n) r))) (sym first) ∙ drop-front (take p r) (map Some s ++ drop (p + n) r)) in
    let last : drop n (map Some s ++ drop (p + n) r) ≡ drop (p + n) r = ap (λ j. drop j (map Some s ++ drop (p + n) r)) (sym size_of) ∙ drop-front (map Some s) (drop (p + n) r) in
    let behind : drop n (drop p r) ≡ drop (p + n) r = sym (drop-more p n r) in
    let old_rest : cells_of text (drop p r) b ≡ cells_of text (drop p r) m ++ cells_of text (drop (p + n) r) z =
    cells-split Below n b text (drop p r) wb (omega (arith, h.whole, e, a, length-drop p r))
    ∙ (ap (λ j. cells_of text (drop p r) m ++ cells_of text (drop j (drop p r)) z) am ∙ ap (λ y. cells_of text (drop p r) m ++ cells_of text y z) behind) in
    let old : cs ≡ cells_of text r f ++ (cells_of text (drop p r) m ++ cells_of text (drop (p + n) r) z) =
    cells-split Below p xs text r w (omega (arith, e)) ∙ (ap (λ j. cells_of text r f ++ cells_of text (drop j r) b) a ∙ ap (λ y. cells_of text r f ++ y) old_rest) in
    let dropped : drop_by in_rasp p cs ≡ cells_of text (drop p r) m ++ cells_of text (drop (p + n) r) z = sym h.rest ∙ (ap (λ j. cells_of text (drop j r) b) a ∙ old_rest) in
    let new : filled p s cs ≡ cells_of text r f ++ (cells_of text (map Some s) m ++ cells_of text (drop (p + n) r) z) =
    ap (λ y. take_by in_rasp p cs ++ loaded s y) dropped
    ∙ (ap (λ y. take_by in_rasp p cs ++ y) (loaded-runs m text s (drop p r) (cells_of text (drop (p + n) r) z) (am ∙ sym u) (omega (arith, am, length-drop p r, l)))
    ∙ ap (λ y. y ++ (cells_of text (map Some s) m ++ cells_of text (drop (p + n) r) z)) (sym h.head)) in
    let same_front : cells_of text t f ≡ cells_of text r f =
    ap (λ y. cells_of text y f) (append_assoc (take p r) (map Some s) (drop (p + n) r))
    ∙ (cells_of-front text (take p r) (map Some s ++ drop (p + n) r) f (a ∙ sym first) ∙ cells-before text r p f a) in
    let new_rest : cells_of text (drop p t) b ≡ cells_of text (map Some s) m ++ cells_of text (drop (p + n) r) z =
    ap (λ y. cells_of text y b) rest
    ∙ (cells-split Below n b text (map Some s ++ drop (p + n) r) wb (omega (arith, h.whole, e, a, size_of, length-append (map Some s) (drop (p + n) r), length-drop (p + n) r))
    ∙ (ap (λ y. y ++ cells_of text (drop (rooms m) (map Some s ++ drop (p + n) r)) z) (cells_of-front text (map Some s) (drop (p + n) r) m (am ∙ sym size_of))
    ∙ (ap (λ j. cells_of text (map Some s) m ++ cells_of text (drop j (map Some s ++ drop (p + n) r)) z) am ∙ ap (λ y. cells_of text (map Some s) m ++ cells_of text y z) last))) in
    record {
      before = h.head;
      old = old;
      new = new;
      cells = cells-split Below p xs text t w (omega (arith, e, lt))
          ∙ (ap (λ j. cells_of text t f ++ cells_of text (drop j t) b) a
          ∙ (ap (λ y. y ++ cells_of text (drop p t) b) same_front ∙ (ap (λ y. cells_of text r f ++ y) new_rest ∙ sym new)));
    }

-- ## What is told

shown-block : (a c : List Cell) (t : PartialText) → shown_of a ≡ t → shown_of (a ++ c) ≡ t ++ shown_of c
shown-block a c t e = members-append is_shown a c ∙ ap (λ z. z ++ shown_of c) e

filled_told : (xs : List Run) (text s : List ℕ) (r l z : PartialText) (n k : ℕ) → Within (length text) xs → rooms xs ≤ length r → k + rooms xs ≤ length s → length l ≡ n
    → all_put (l ++ (shown_of (cells_of text r xs) ++ z)) (reverse (filling_changes s (filled_runs n k xs)))
    ≡ l ++ (shown_of (cells_of text (map Some (drop k s)) xs) ++ z)
filled_told [] text s r l z n k w o u e = refl
filled_told (Held j None ∷ xs) text s r l z n k w o u e =
    let m = take j r in
    let t = map Some (drop k s) in
    let v = map Some (take j (drop k s)) in
    let c = cells_of text (drop j r) xs in
    let d = cells_of text (drop j t) xs in
    let change : Change = record { p = n; q = n + j; new = v } in
    let steps : n + (j + 0) ≡ n + j = omega arith in
    let rest = filling_changes s (filled_runs (n + j) (k + j) xs) in
    let size_of = length-take-le j r (omega (arith, o)) in
    let a = shown-block (map (held None) m) c m (shown-held None m) in
    let b = shown-block (map (held None) (take j t)) d (take j t) (shown-held None (take j t)) in
    let is_v : take j t ≡ v = take-map Some j (drop k s) in
    let tail : map Some (drop (k + j) s) ≡ drop j t = ap (map Some) (drop-more k j s) ∙ sym (drop-map Some j (drop k s)) in
    let i = filled_told xs text s (drop j r) (l ++ m) z (n + j) (k + j) w.1 (omega (arith, o, length-drop j r)) (omega (arith, u)) (omega (arith, length-append l m, size_of, e)) in
    let same : l ++ (shown_of (map (held None) m ++ c) ++ z) ≡ l ++ m ++ (shown_of c ++ z) =
    ap (λ y. l ++ (y ++ z)) a ∙ (ap (λ y. l ++ y) (append_assoc m (shown_of c) z) ∙ sym (append_assoc l m (shown_of c ++ z))) in
    let made : all_put (l ++ (shown_of (map (held None) m ++ c) ++ z)) (reverse rest) ≡ l ++ (m ++ (shown_of d ++ z)) =
    ap (λ y. all_put y (reverse rest)) same ∙ (i ∙ (ap (λ y. l ++ m ++ (shown_of (cells_of text y xs) ++ z)) tail ∙ append_assoc l m (shown_of d ++ z))) in
    ap (λ y. all_put (l ++ (shown_of (map (held None) m ++ c) ++ z)) (reverse (change ∷ filling_changes s (filled_runs y (k + j) xs)))) steps
    ∙ (put-last (l ++ (shown_of (map (held None) m ++ c) ++ z)) (l ++ (m ++ (shown_of d ++ z))) change rest made
    ∙ (replaced-block l m v (shown_of d ++ z) n j e size_of
    ∙ (ap (λ y. l ++ (y ++ (shown_of d ++ z))) (sym is_v) ∙ ap (λ y. l ++ y) (sym (append_assoc (take j t) (shown_of d) z) ∙ ap (λ y. y ++ z) (sym b)))))
filled_told (Held j (Some h) ∷ xs) text s r l z n k w o u e =
    let m = take j r in
    let t = map Some (drop k s) in
    let c = cells_of text (drop j r) xs in
    let d = cells_of text (drop j t) xs in
    let steps : n + 0 ≡ n = omega arith in
    let a = shown-block (map (held (Some h)) m) c [] (shown-held (Some h) m) in
    let b = shown-block (map (held (Some h)) (take j t)) d [] (shown-held (Some h) (take j t)) in
    let tail : map Some (drop (k + j) s) ≡ drop j t = ap (map Some) (drop-more k j s) ∙ sym (drop-map Some j (drop k s)) in
    ap (λ y. all_put (l ++ (shown_of (map (held (Some h)) m ++ c) ++ z)) (reverse (filling_changes s (filled_runs y (k + j) xs)))) steps
    ∙ (ap (λ y. all_put (l ++ (y ++ z)) (reverse (filling_changes s (filled_runs n (k + j) xs)))) a
    ∙ (filled_told xs text s (drop j r) l z n (k + j) w.1 (omega (arith, o, length-drop j r)) (omega (arith, u)) e
    ∙ (ap (λ y. l ++ (shown_of (cells_of text y xs) ++ z)) tail ∙ ap (λ y. l ++ (y ++ z)) (sym b))))
filled_told (Typed q g None ∷ xs) text s r l z n k w o u e =
    let m = map Some (runes_of text q) in
    let j = q.count in
    let t = map Some (drop k s) in
    let c = cells_of text r xs in
    let d = cells_of text t xs in
    let steps : n + (j + 0) ≡ n + j = omega arith in
    let stays : k + 0 ≡ k = omega arith in
    let rest = filling_changes s (filled_runs (n + j) k xs) in
    let a = shown-block (map (typed_by g None) (runes_of text q)) c m (shown-typed g None (runes_of text q)) in
    let b = shown-block (map (typed_by g None) (runes_of text q)) d m (shown-typed g None (runes_of text q)) in
    let i = filled_told xs text s r (l ++ m) z (n + j) k w.1 (omega (arith, o)) (omega (arith, u)) (omega (arith, length-append l m, length-map (runes_of text q) Some, runes-size text q w.0, e)) in
    let moved : (y : PartialText) → l ++ (m ++ y ++ z) ≡ l ++ m ++ (y ++ z) = λ y. ap (λ x. l ++ x) (append_assoc m y z) ∙ sym (append_assoc l m (y ++ z)) in
    ap (λ y. all_put (l ++ (shown_of (map (typed_by g None) (runes_of text q) ++ c) ++ z)) (reverse (filling_changes s (filled_runs y (k + 0) xs)))) steps
    ∙ (ap (λ y. all_put (l ++ (shown_of (map (typed_by g None) (runes_of text q) ++ c) ++ z)) (reverse (filling_changes s (filled_runs (n + j) y xs)))) stays
    ∙ (ap (λ y. all_put (l ++ (y ++ z)) (reverse rest)) a
    ∙ (ap (λ y. all_put y (reverse rest)) (moved (shown_of c)) ∙ (i ∙ (sym (moved (shown_of d)) ∙ ap (λ y. l ++ (y ++ z)) (sym b))))))
filled_told (Typed q g (Some h) ∷ xs) text s r l z n k w o u e =
    let t = map Some (drop k s) in
    let c = cells_of text r xs in
    let d = cells_of text t xs in
    let steps : n + 0 ≡ n = omega arith in
    let stays : k + 0 ≡ k = omega arith in
    let a = shown-block (map (typed_by g (Some h)) (runes_of text q)) c [] (shown-typed g (Some h) (runes_of text q)) in
    let b = shown-block (map (typed_by g (Some h)) (runes_of text q)) d [] (shown-typed g (Some h) (runes_of text q)) in
    ap (λ y. all_put (l ++ (shown_of (map (typed_by g (Some h)) (runes_of text q) ++ c) ++ z)) (reverse (filling_changes s (filled_runs y (k + 0) xs)))) steps
    ∙ (ap (λ y. all_put (l ++ (shown_of (map (typed_by g (Some h)) (runes_of text q) ++ c) ++ z)) (reverse (filling_changes s (filled_runs n y xs)))) stays
    ∙ (ap (λ y. all_put (l ++ (y ++ z)) (reverse (filling_changes s (filled_runs n k xs)))) a
    ∙ (filled_told xs text s r l z n k w.1 (omega (arith, o)) (omega (arith, u)) e ∙ ap (λ y. l ++ (y ++ z)) (sym b))))

pub filled_shown : (xs : List Run) (text : List ℕ) (p n : ℕ) (r : PartialText) (s : List ℕ) → Within (length text) xs → rooms xs ≡ length r → p + n ≤ length r → length s ≡ n
    → all_put (shown_of (cells_of text r xs)) (reverse (filling_changes s (filled_runs (above (front Below p xs)) 0 (front Below n (back Below p xs)))))
    ≡ shown_of (filled p s (cells_of text r xs))
filled_shown xs text p n r s w e l u =
    let h = fills xs text p n r s w e l u in
    let f = front Below p xs in
    let b = back Below p xs in
    let m = front Below n b in
    let x = cells_of text r f in
    let y = cells_of text (drop p r) m in
    let k = cells_of text (map Some s) m in
    let z = cells_of text (drop (p + n) r) (back Below n b) in
    let wb = within-back Below p xs (length text) w in
    let t = split Below p xs text r w (omega (arith, e)) in
    let a : rooms f ≡ p = rooms-front p xs (omega (arith, e, l)) in
    let am : rooms m ≡ n = rooms-front n b (omega (arith, t.whole, e, l, a)) in
    let old : shown_of (cells_of text r xs) ≡ shown_of x ++ (shown_of y ++ shown_of z) =
    ap shown_of h.old ∙ (members-append is_shown x (y ++ z) ∙ ap (λ v. shown_of x ++ v) (members-append is_shown y z)) in
    let new : shown_of (filled p s (cells_of text r xs)) ≡ shown_of x ++ (shown_of k ++ shown_of z) =
    ap shown_of h.new ∙ (members-append is_shown x (k ++ z) ∙ ap (λ v. shown_of x ++ v) (members-append is_shown k z)) in
    let place : length (shown_of x) ≡ above f = ap (λ v. length (shown_of v)) h.before ∙ sym (placed xs text p r w e) in
    ap (λ v. all_put v (reverse (filling_changes s (filled_runs (above f) 0 m)))) old
    ∙ (filled_told m text s (drop p r) (shown_of x) (shown_of z) (above f) 0 (within-front Below n b (length text) wb) (omega (arith, am, length-drop p r, l)) (omega (arith, am, u)) place
    ∙ sym new)
