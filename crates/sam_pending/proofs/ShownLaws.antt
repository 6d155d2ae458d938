-- What is told of runs.
use Rattle.std.proofs.Common.{List, None, Option, Some, [], ap, append-nil, append_assoc, arith, cond, drop, is_none, length, length-append, length-drop, length-take-le, map, not, refl, reverse, sym, take, ℕ, ◌++◌, ◌+◌, ◌-◌, ◌∙◌, ◌∷◌, ◌≡◌, ◌≤◌}
use Rattle.std.proofs.lemmas.List.{length-map}
use Rattle.std.proofs.lemmas.List.Elements.{filter-append}
use Rattle.sam_pending.specs.Cells.{Cell, PartialText, all_put, drop_by, in_rasp, is_shown, part_by, put, rasp_of, removed, shown_of, shown_place, take_by, waiting_of}
use Rattle.sam_pending.specs.Runs.{front, back, held, typed_by, runes_of, Within, rooms, cells_of, gone_runs, removal_changes, above}
use Rattle.sam_pending.specs.declared.run.Run.{Run}
use Rattle.sam_pending.specs.declared.run.Run.TheVariants.{Held, Typed}
use Rattle.sam_pending.specs.declared.run.Side.TheVariants.{Below}
use Rattle.sam_pending.proofs.CellLaws.{members-append, members-three, members-parted, put-last}
use Rattle.sam_pending.proofs.RunLaws.{split, runes-size, within-front, within-back, take-front, drop-front, waiting-held, waiting-typed}

pub rasp-held : (d : Option ℕ) (r : PartialText) → rasp_of (map (held d) r) ≡ r
rasp-held d [] = refl
rasp-held d (m ∷ r) = ap (λ z. m ∷ z) (rasp-held d r)

pub rasp-typed : (b : ℕ) (d : Option ℕ) (s : List ℕ) → rasp_of (map (typed_by b d) s) ≡ []
rasp-typed b d [] = refl
rasp-typed b d (c ∷ s) = rasp-typed b d s

removed-block : (l m z : PartialText) (n k : ℕ) → length l ≡ n → length m ≡ k → put (l ++ (m ++ z)) (record { p = n; q = n + k; new = [] }) ≡ l ++ z
removed-block l m z n k e u =
    let f : take n (l ++ (m ++ z)) ≡ l = ap (λ i. take i (l ++ (m ++ z))) (sym e) ∙ take-front l (m ++ z) in
    let q : length (l ++ m) ≡ n + k = omega (arith, length-append l m, e, u) in
    let b : drop (n + k) (l ++ (m ++ z)) ≡ z = ap (drop (n + k)) (sym (append_assoc l m z)) ∙ (ap (λ i. drop i (l ++ m ++ z)) (sym q) ∙ drop-front (l ++ m) z) in
    ap (λ y. y ++ [] ++ drop (n + k) (l ++ (m ++ z))) f ∙ (ap (λ y. l ++ [] ++ y) b ∙ ap (λ y. y ++ z) (append-nil l))

-- others in the place of a block as long
pub replaced-block : (l m w z : PartialText) (n k : ℕ) → length l ≡ n → length m ≡ k → put (l ++ (m ++ z)) (record { p = n; q = n + k; new = w }) ≡ l ++ (w ++ z)
replaced-block l m w z n k e u =
    let f : take n (l ++ (m ++ z)) ≡ l = ap (λ i. take i (l ++ (m ++ z))) (sym e) ∙ take-front l (m ++ z) in
    let q : length (l ++ m) ≡ n + k = omega (arith, length-append l m, e, u) in
    let b : drop (n + k) (l ++ (m ++ z)) ≡ z = ap (drop (n + k)) (sym (append_assoc l m z)) ∙ (ap (λ i. drop i (l ++ m ++ z)) (sym q) ∙ drop-front (l ++ m) z) in
    ap (λ y. y ++ w ++ drop (n + k) (l ++ (m ++ z))) f ∙ (ap (λ y. l ++ w ++ y) b ∙ append_assoc l w z)

pub inserted-block : (l m z : PartialText) (n : ℕ) → length l ≡ n → put (l ++ z) (record { p = n; q = n; new = m }) ≡ l ++ (m ++ z)
inserted-block l m z n e =
    let f : take n (l ++ z) ≡ l = ap (λ i. take i (l ++ z)) (sym e) ∙ take-front l z in
    let b : drop n (l ++ z) ≡ z = ap (λ i. drop i (l ++ z)) (sym e) ∙ drop-front l z in
    ap (λ y. y ++ m ++ drop n (l ++ z)) f ∙ (ap (λ y. l ++ m ++ y) b ∙ append_assoc l m z)

-- ## What is told

pub shown-held : (d : Option ℕ) (r : PartialText) → shown_of (map (held d) r) ≡ cond (is_none d) r []
shown-held None [] = refl
shown-held None (m ∷ r) = ap (λ z. m ∷ z) (shown-held None r)
shown-held (Some h) [] = refl
shown-held (Some h) (m ∷ r) = shown-held (Some h) r

pub shown-typed : (b : ℕ) (d : Option ℕ) (s : List ℕ) → shown_of (map (typed_by b d) s) ≡ cond (is_none d) (map Some s) []
shown-typed b None [] = refl
shown-typed b None (c ∷ s) = ap (λ z. Some c ∷ z) (shown-typed b None s)
shown-typed b (Some h) [] = refl
shown-typed b (Some h) (c ∷ s) = shown-typed b (Some h) s

pub above_shown : (xs : List Run) (text : List ℕ) (r : PartialText) → Within (length text) xs → rooms xs ≤ length r → length (shown_of (cells_of text r xs)) ≡ above xs
above_shown [] text r w l = refl
above_shown (Held n None ∷ xs) text r w l =
    let t = above_shown xs text (drop n r) w.1 (omega (arith, l, length-drop n r)) in
    omega (arith, ap length (members-append is_shown (map (held None) (take n r)) (cells_of text (drop n r) xs)), length-append (shown_of (map (held None) (take n r))) (shown_of (cells_of text (drop n r) xs)), ap length (shown-held None (take n r)), length-take-le n r (omega (arith, l)), t)
above_shown (Held n (Some h) ∷ xs) text r w l =
    let t = above_shown xs text (drop n r) w.1 (omega (arith, l, length-drop n r)) in
    ap length (members-append is_shown (map (held (Some h)) (take n r)) (cells_of text (drop n r) xs) ∙ ap (λ z. z ++ shown_of (cells_of text (drop n r) xs)) (shown-held (Some h) (take n r))) ∙ t
above_shown (Typed s b None ∷ xs) text r w l =
    let t = above_shown xs text r w.1 (omega (arith, l)) in
    let m = runes_of text s in
    omega (arith, ap length (members-append is_shown (map (typed_by b None) m) (cells_of text r xs)), length-append (shown_of (map (typed_by b None) m)) (shown_of (cells_of text r xs)), ap length (shown-typed b None m), length-map m Some, runes-size text s w.0, t)
above_shown (Typed s b (Some h) ∷ xs) text r w l =
    let t = above_shown xs text r w.1 (omega (arith, l)) in
    let m = runes_of text s in
    ap length (members-append is_shown (map (typed_by b (Some h)) m) (cells_of text r xs) ∙ ap (λ z. z ++ shown_of (cells_of text r xs)) (shown-typed b (Some h) m)) ∙ t

-- what is shown of a block and of what follows it, and of what waits there
shown-block : (a c : List Cell) (t u : PartialText) → shown_of a ≡ t → shown_of (waiting_of a) ≡ u
    → (shown_of (a ++ c) ≡ t ++ shown_of c) × (shown_of (waiting_of (a ++ c)) ≡ u ++ shown_of (waiting_of c))
shown-block a c t u e h = (
  members-append is_shown a c ∙ ap (λ z. z ++ shown_of c) e,
  ap shown_of (filter-append (λ d. not (in_rasp d)) a c) ∙ (members-append is_shown (waiting_of a) (waiting_of c) ∙ ap (λ z. z ++ shown_of (waiting_of c)) h),
)

pub gone_told : (xs : List Run) (text : List ℕ) (r l z : PartialText) (n : ℕ) → Within (length text) xs → rooms xs ≤ length r → length l ≡ n
    → all_put (l ++ (shown_of (cells_of text r xs) ++ z)) (reverse (removal_changes (gone_runs n xs))) ≡ l ++ (shown_of (waiting_of (cells_of text r xs)) ++ z)
gone_told [] text r l z n w o e = refl
gone_told (Held k None ∷ xs) text r l z n w o e =
    let m = take k r in
    let c = cells_of text (drop k r) xs in
    let a = shown-block (map (held None) m) c m [] (shown-held None m) (ap shown_of (waiting-held None m)) in
    let size_of = length-take-le k r (omega (arith, o)) in
    let steps : n + (k + 0) ≡ n + k = omega arith in
    let rest = removal_changes (gone_runs (n + k) xs) in
    let i = gone_told xs text (drop k r) (l ++ m) z (n + k) w.1 (omega (arith, o, length-drop k r)) (omega (arith, length-append l m, size_of, e)) in
    let same : l ++ (shown_of (map (held None) m ++ c) ++ z) ≡ l ++ m ++ (shown_of c ++ z) =
    ap (λ y. l ++ (y ++ z)) a.0 ∙ (ap (λ y. l ++ y) (append_assoc m (shown_of c) z) ∙ sym (append_assoc l m (shown_of c ++ z))) in
    ap (λ j. all_put (l ++ (shown_of (map (held None) m ++ c) ++ z)) (reverse (record { p = n; q = n + k; new = [] } ∷ removal_changes (gone_runs j xs)))) steps
    ∙ (put-last (l ++ (shown_of (map (held None) m ++ c) ++ z)) (l ++ (m ++ (shown_of (waiting_of c) ++ z))) (record { p = n; q = n + k; new = [] }) rest
    (ap (λ y. all_put y (reverse rest)) same ∙ (i ∙ append_assoc l m (shown_of (waiting_of c) ++ z)))
    ∙ (removed-block l m (shown_of (waiting_of c) ++ z) n k e size_of ∙ ap (λ y. l ++ (y ++ z)) (sym a.1)))
gone_told (Held k (Some h) ∷ xs) text r l z n w o e =
    let m = take k r in
    let c = cells_of text (drop k r) xs in
    let a = shown-block (map (held (Some h)) m) c [] [] (shown-held (Some h) m) (ap shown_of (waiting-held (Some h) m)) in
    let steps : n + 0 ≡ n = omega arith in
    ap (λ j. all_put (l ++ (shown_of (map (held (Some h)) m ++ c) ++ z)) (reverse (removal_changes (gone_runs j xs)))) steps
    ∙ (ap (λ y. all_put (l ++ (y ++ z)) (reverse (removal_changes (gone_runs n xs)))) a.0
    ∙ (gone_told xs text (drop k r) l z n w.1 (omega (arith, o, length-drop k r)) e ∙ ap (λ y. l ++ (y ++ z)) (sym a.1)))
gone_told (Typed s b None ∷ xs) text r l z n w o e =
    let m = map Some (runes_of text s) in
    let k = s.count in
    let c = cells_of text r xs in
    let a = shown-block (map (typed_by b None) (runes_of text s)) c m m (shown-typed b None (runes_of text s)) (ap shown_of (waiting-typed b None (runes_of text s)) ∙ shown-typed b None (runes_of text s)) in
    let steps : n + (k + 0) ≡ n + k = omega arith in
    let i = gone_told xs text r (l ++ m) z (n + k) w.1 (omega (arith, o)) (omega (arith, length-append l m, length-map (runes_of text s) Some, runes-size text s w.0, e)) in
    let moved : (y : PartialText) → l ++ (m ++ y ++ z) ≡ l ++ m ++ (y ++ z) = λ y. ap (λ x. l ++ x) (append_assoc m y z) ∙ sym (append_assoc l m (y ++ z)) in
    ap (λ j. all_put (l ++ (shown_of (map (typed_by b None) (runes_of text s) ++ c) ++ z)) (reverse (removal_changes (gone_runs j xs)))) steps
    ∙ (ap (λ y. all_put (l ++ (y ++ z)) (reverse (removal_changes (gone_runs (n + k) xs)))) a.0
    ∙ (ap (λ y. all_put y (reverse (removal_changes (gone_runs (n + k) xs)))) (moved (shown_of c)) ∙ (i ∙ (sym (moved (shown_of (waiting_of c))) ∙ ap (λ y. l ++ (y ++ z)) (sym a.1)))))
gone_told (Typed s b (Some h) ∷ xs) text r l z n w o e =
    let c = cells_of text r xs in
    let a = shown-block (map (typed_by b (Some h)) (runes_of text s)) c [] [] (shown-typed b (Some h) (runes_of text s)) (ap shown_of (waiting-typed b (Some h) (runes_of text s)) ∙ shown-typed b (Some h) (runes_of text s)) in
    let steps : n + 0 ≡ n = omega arith in
    ap (λ j. all_put (l ++ (shown_of (map (typed_by b (Some h)) (runes_of text s) ++ c) ++ z)) (reverse (removal_changes (gone_runs j xs)))) steps
    ∙ (ap (λ y. all_put (l ++ (y ++ z)) (reverse (removal_changes (gone_runs n xs)))) a.0
    ∙ (gone_told xs text r l z n w.1 (omega (arith, o)) e ∙ ap (λ y. l ++ (y ++ z)) (sym a.1)))

pub placed : (xs : List Run) (text : List ℕ) (p : ℕ) (r : PartialText) → Within (length text) xs → rooms xs ≡ length r → above (front Below p xs) ≡ shown_place p (cells_of text r xs)
placed xs text p r w e =
    let s = split Below p xs text r w (omega (arith, e)) in
    sym (above_shown (front Below p xs) text r (within-front Below p xs (length text) w) (omega (arith, s.whole, e))) ∙ ap (λ z. length (shown_of z)) s.head

pub removed_told : (xs : List Run) (text : List ℕ) (p q : ℕ) (r : PartialText) → p ≤ q → Within (length text) xs → rooms xs ≡ length r → q ≤ length r
    → all_put (shown_of (cells_of text r xs)) (reverse (removal_changes (gone_runs (above (front Below p xs)) (front Below (q - p) (back Below p xs))))) ≡ shown_of (removed p q (cells_of text r xs))
removed_told xs text p q r o w e l =
    let f = front Below p xs in
    let b = back Below p xs in
    let m = front Below (q - p) b in
    let cs = cells_of text r xs in
    let s = split Below p xs text r w (omega (arith, e)) in
    let r2 = drop (rooms f) r in
    let wb = within-back Below p xs (length text) w in
    let t = split Below (q - p) b text r2 wb (omega (arith, s.whole, e, length-drop (rooms f) r)) in
    let part : cells_of text r2 m ≡ part_by in_rasp p q cs = t.head ∙ ap (take_by in_rasp (q - p)) s.rest in
    let x = take_by in_rasp p cs in
    let y = part_by in_rasp p q cs in
    let z = drop_by in_rasp (q - p) (drop_by in_rasp p cs) in
    let told = gone_told m text r2 (shown_of x) (shown_of z) (above f) (within-front Below (q - p) b (length text) wb) (omega (arith, s.whole, t.whole, e, length-drop (rooms f) r)) (sym (placed xs text p r w e)) in
    let whole : shown_of cs ≡ shown_of x ++ (shown_of (cells_of text r2 m) ++ shown_of z) =
    members-parted in_rasp is_shown p q cs ∙ (append_assoc (shown_of x) (shown_of y) (shown_of z) ∙ ap (λ w. shown_of x ++ (shown_of w ++ shown_of z)) (sym part)) in
    ap (λ w. all_put w (reverse (removal_changes (gone_runs (above f) m)))) whole
    ∙ (told ∙ (ap (λ w. shown_of x ++ (shown_of (waiting_of w) ++ shown_of z)) part
    ∙ (sym (append_assoc (shown_of x) (shown_of (waiting_of y)) (shown_of z)) ∙ sym (members-three is_shown x (waiting_of y) z))))
