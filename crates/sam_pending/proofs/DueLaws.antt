-- The next edit of what waits, and the cells once it is made.
use Rattle.std.proofs.Common.{◌≡◌, ◌⊎◌, inl, inr, refl, sym, ap, ◌∙◌, subst, ℕ, zero, suc, ◌+◌, ◌≤◌, ◌<◌, Bool, true, false, not, cond, nat_eq, nat_le, nat_lt, ◌&&◌, ◌||◌, List, [], ◌∷◌, ◌++◌, map, length, take, drop, Option, Some, None, is_none, arith, append_assoc, append-nil, take-append-drop, length-append, length-take-le, length-drop, IsTrue}
use Rattle.std.specs.Prelude.{◌↔◌, option_map, set}
use Rattle.std.specs.List.{All, filter}
use Rattle.std.proofs.lemmas.List.{length-map, take-set, drop-set}
use Rattle.std.proofs.lemmas.Bool.Decides.{nat_tests}
use Rattle.std.proofs.lemmas.List.Elements.{All-map}
use Rattle.sam_runes.specs.Texts.{max_runes}
use Rattle.sam_runes.specs.declared.edit.Edit.{Edit}
use Rattle.sam_pending.specs.Groups.{IsMadeBy, is_due_by}
use Rattle.sam_pending.specs.Cells.{PartialText, Cell, Change, IsMade, IsTaken, IsBrought, come, goes, put, rasp_of, shown_of, in_rasp, is_shown}
use Rattle.sam_pending.specs.Runs.{held, typed_by, runes_of, room, rooms, wait, waits, cells, cells_of, reach, Within, is_due, first_due, edit_at, made_run, made_first, has_due, has_next, is_up_to, next_deed, edit_change, run_rests, rests}
use Rattle.sam_pending.specs.Layers.{Layer, IsLayer, IsOver, cells_over, next_edit, next_made, rasp_length, runs_of}
use Rattle.sam_pending.specs.declared.run.Run.{Run}
use Rattle.sam_pending.specs.declared.run.Run.TheVariants.{Held, Typed}
use Rattle.sam_pending.specs.declared.run.Deed.{Deed}
use Rattle.sam_pending.specs.declared.run.Deed.TheVariants.{Removes, Inserts}
use Rattle.sam_pending.proofs.CellLaws.{members-append, members-three}
use Rattle.sam_pending.proofs.FirstLaws.{flat_made}
use Rattle.sam_pending.proofs.RunLaws.{runes-size, take-front, drop-front}
use Rattle.sam_pending.proofs.ShownLaws.{inserted-block, replaced-block, rasp-held, rasp-typed}

some-is : {A : Type 0} {x y : A} → Some x ≡ Some y → x ≡ y
some-is e = cc

pair-first : {x y : Run} {n m : ℕ} → ◌≡◌ {A = Option (Run × ℕ)} (Some (x, n)) (Some (y, m)) → x ≡ y
pair-first e = ap (λ (p : Run × ℕ). p.0) (some-is e)

pair-second : {x y : Run} {n m : ℕ} → ◌≡◌ {A = Option (Run × ℕ)} (Some (x, n)) (Some (y, m)) → n ≡ m
pair-second e = ap (λ (p : Run × ℕ). p.1) (some-is e)

-- ## Cells of a run that comes to the rasp

come-typed : (b : ℕ) (d : Option ℕ) (s : List ℕ) → map come (map (typed_by b d) s) ≡ map (held d) (map Some s)
come-typed b d [] = refl
come-typed b d (c ∷ s) = ap (λ z. held d (Some c) ∷ z) (come-typed b d s)

pub members-typed : (b : ℕ) (d : Option ℕ) (s : List ℕ) → map Some s ≡ map (λ (c : Cell). c.member) (map (typed_by b d) s)
members-typed b d [] = refl
members-typed b d (c ∷ s) = ap (λ z. Some c ∷ z) (members-typed b d s)

rasp-run : (x : Run) (text : List ℕ) (r : PartialText) → rasp_of (cells text r x) ≡ take (room x) r
rasp-run (Held k d) text r = rasp-held d (take k r)
rasp-run (Typed s b d) text r = rasp-typed b d (runes_of text s)

-- ## One edit of runs

-- up to which group an edit is due
abbrev pub limit_of : Deed → Option ℕ
limit_of (Removes m) = m
limit_of (Inserts m) = m

both-true : (a b : Bool) → a && b ≡ true → (a ≡ true) × (b ≡ true)
both-true true b e = (refl, e)
both-true false b e = absurd cc

-- such a group is one up to the limit
limited : (m : Option ℕ) (g h : ℕ) → m ≡ Some g → is_up_to m h ≡ true → nat_le h g ≡ true
limited m g h is due = subst (λ k. is_up_to k h ≡ true) is due

-- where the cells a stand before the runs, and their rasp members l
pub record MadeRuns (w : Deed) (text : List ℕ) (xs after : List Run) (r : PartialText) (e : Edit) (a : List Cell) (l : PartialText) : Type 0 where
  pub rest : PartialText
  pub is : IsMade (a ++ cells_of text r xs) (edit_change e) (a ++ cells_of text rest after)
  pub by : (g : ℕ) → limit_of w ≡ Some g → IsMadeBy g (a ++ cells_of text r xs) (edit_change e) (a ++ cells_of text rest after)
  pub put : put (l ++ r) (edit_change e) ≡ l ++ rest
  pub holds : rooms after ≡ length rest

removes-here : (u : Option ℕ) (k g : ℕ) (xs : List Run) (text : List ℕ) (r : PartialText) (n : ℕ) (a : List Cell) (l : PartialText) → 0 < k → is_up_to u g ≡ true → k + rooms xs ≡ length r
    → rasp_of a ≡ l → length l ≡ n → MadeRuns (Removes u) text (Held k (Some g) ∷ xs) (Held 0 None ∷ xs) r (edit_at text n (Held k (Some g))) a l
removes-here u k g xs text r n a l some due e of len =
    let m = take k r in
    let z = drop k r in
    let h = map (held (Some g)) m in
    let size_of : length m ≡ k = length-take-le k r (omega (arith, e)) in
    let cells_size : length h ≡ k = length-map m (held (Some g)) ∙ size_of in
    let at : n ≡ length (rasp_of a) = sym len ∙ ap length (sym of) in
    let old : a ++ cells_of text r (Held k (Some g) ∷ xs) ≡ a ++ h ++ cells_of text z xs = sym (append_assoc a h (cells_of text z xs)) in
    let made : IsTaken a h (cells_of text z xs) (edit_change (edit_at text n (Held k (Some g)))) (a ++ cells_of text z (Held 0 None ∷ xs)) =
    record {
      all = All-map (λ c. IsTrue (goes c)) (held (Some g)) m (λ j y i. refl);
      cells = refl;
      change = rw (cells_size, at) refl;
    } in
    record {
      rest = z;
      is = record { before = a; stretch = h; behind = cells_of text z xs; old = old; some = omega (arith, some, cells_size); made = inl made };
      by = λ b is. record {
        before = a;
        stretch = h;
        behind = cells_of text z xs;
        old = old;
        some = omega (arith, some, cells_size);
        due = All-map (λ c. IsTrue (is_due_by b c)) (held (Some g)) m (λ j y i. limited u b g is due);
        made = inl made;
      };
      put = ap (λ y. put (l ++ y) (record { p = n; q = n + k; new = [] })) (sym (take-append-drop k r)) ∙ replaced-block l m [] z n k len size_of;
      holds = omega (arith, e, length-drop k r);
    }

inserts-here : (u : Option ℕ) (x : Run) (xs : List Run) (text : List ℕ) (r : PartialText) (n : ℕ) (a : List Cell) (l : PartialText) → is_due (Inserts u) x ≡ true → reach x ≤ length text
    → room x + rooms xs ≡ length r → rasp_of a ≡ l → length l ≡ n → MadeRuns (Inserts u) text (x ∷ xs) (made_run x ∷ xs) r (edit_at text n x) a l
inserts-here u (Held k d) xs text r n a l due w e of len = absurd cc
inserts-here u (Typed s b d) xs text r n a l due w e of len =
    let m = runes_of text s in
    let h = map (typed_by b d) m in
    let size_of : length (map Some m) ≡ s.count = length-map m Some ∙ runes-size text s w in
    let some : 0 < s.count = grind (arith, (both-true (nat_lt 0 s.count) (is_up_to u b) due).0, nat_tests) in
    let cells_size : length h ≡ s.count = length-map m (typed_by b d) ∙ runes-size text s w in
    let at : n ≡ length (rasp_of a) = sym len ∙ ap length (sym of) in
    let c = cells_of text r xs in
    let front : take s.count (map Some m ++ r) ≡ map Some m = ap (λ i. take i (map Some m ++ r)) (sym size_of) ∙ take-front (map Some m) r in
    let back : drop s.count (map Some m ++ r) ≡ r = ap (λ i. drop i (map Some m ++ r)) (sym size_of) ∙ drop-front (map Some m) r in
    let after : map (held d) (take s.count (map Some m ++ r)) ++ cells_of text (drop s.count (map Some m ++ r)) xs ≡ map come h ++ c =
    ap (λ y. map (held d) y ++ cells_of text (drop s.count (map Some m ++ r)) xs) front
    ∙ (ap (λ y. map (held d) (map Some m) ++ cells_of text y xs) back ∙ ap (λ y. y ++ c) (sym (come-typed b d m))) in
    let made : IsBrought a h c (edit_change (edit_at text n (Typed s b d))) (a ++ cells_of text (map Some m ++ r) (Held s.count d ∷ xs)) =
    record {
      all = All-map (λ c. IsTrue (not (in_rasp c))) (typed_by b d) m (λ j y i. refl);
      cells = ap (λ y. a ++ y) after ∙ sym (append_assoc a (map come h) c);
      change = rw (← members-typed b d m, ← at) refl;
    } in
    record {
      rest = map Some m ++ r;
      is = record { before = a; stretch = h; behind = c; old = sym (append_assoc a h c); some = omega (arith, some, cells_size); made = inr made };
      by = λ g is. record {
        before = a;
        stretch = h;
        behind = c;
        old = sym (append_assoc a h c);
        some = omega (arith, some, cells_size);
        due = All-map (λ c. IsTrue (is_due_by g c)) (typed_by b d) m (λ j y i. limited u g b is (both-true (nat_lt 0 s.count) (is_up_to u b) due).1);
        made = inr made;
      };
      put = inserted-block l (map Some m) r n len;
      holds = omega (arith, e, size_of, length-append (map Some m) r);
    }

pub made-here : (w : Deed) (x : Run) (xs : List Run) (text : List ℕ) (r : PartialText) (n : ℕ) (a : List Cell) (l : PartialText) → is_due w x ≡ true → reach x ≤ length text → room x + rooms xs ≡ length r
    → rasp_of a ≡ l → length l ≡ n → MadeRuns w text (x ∷ xs) (made_run x ∷ xs) r (edit_at text n x) a l
made-here (Inserts u) x xs text r n a l due w e of len = inserts-here u x xs text r n a l due w e of len
made-here (Removes u) (Held k (Some g)) xs text r n a l due w e of len =
    let two = both-true (nat_lt 0 k) (is_up_to u g) due in
    removes-here u k g xs text r n a l (grind (arith, two.0, nat_tests)) two.1 e of len
made-here (Removes u) (Held k None) xs text r n a l due w e of len = absurd cc
made-here (Removes u) (Typed s b d) xs text r n a l due w e of len = absurd cc

-- past a run
made-past : (w : Deed) (x : Run) (xs after : List Run) (text : List ℕ) (r : PartialText) (e : Edit) (a : List Cell) (l : PartialText) → room x ≤ length r
    → MadeRuns w text xs after (drop (room x) r) e (a ++ cells text r x) (l ++ take (room x) r) → MadeRuns w text (x ∷ xs) (x ∷ after) r e a l
made-past w x xs after text r e a l o t =
    let m = take (room x) r in
    let z = drop (room x) r in
    let size_of : length m ≡ room x = length-take-le (room x) r o in
    let back : drop (room x) (m ++ t.rest) ≡ t.rest = ap (λ i. drop i (m ++ t.rest)) (sym size_of) ∙ drop-front m t.rest in
    let new : cells text (m ++ t.rest) x ++ cells_of text (drop (room x) (m ++ t.rest)) after ≡ cells text r x ++ cells_of text t.rest after =
    ap (λ y. y ++ cells_of text (drop (room x) (m ++ t.rest)) after) (same-run x text r t.rest o) ∙ ap (λ y. cells text r x ++ cells_of text y after) back in
    let moved : (P : List Cell → List Cell → Type 0) → P ((a ++ cells text r x) ++ cells_of text z xs) ((a ++ cells text r x) ++ cells_of text t.rest after)
    → P (a ++ cells_of text r (x ∷ xs)) (a ++ cells_of text (m ++ t.rest) (x ∷ after)) =
    λ P p. subst (λ y. P y (a ++ (cells text (m ++ t.rest) x ++ cells_of text (drop (room x) (m ++ t.rest)) after))) (append_assoc a (cells text r x) (cells_of text z xs))
    (subst (λ y. P (a ++ cells text r x ++ cells_of text z xs) y) (append_assoc a (cells text r x) (cells_of text t.rest after) ∙ ap (λ y. a ++ y) (sym new)) p) in
    record {
      rest = m ++ t.rest;
      is = moved (λ c d. IsMade c (edit_change e) d) t.is;
      by = λ g is. moved (λ c d. IsMadeBy g c (edit_change e) d) (t.by g is);
      put = ap (λ y. put (l ++ y) (edit_change e)) (sym (take-append-drop (room x) r))
          ∙ (ap (λ y. put y (edit_change e)) (sym (append_assoc l m z)) ∙ (t.put ∙ append_assoc l m t.rest));
      holds = omega (arith, t.holds, size_of, length-append m t.rest);
    }
  where
    same-run : (x : Run) (text : List ℕ) (r y : PartialText) → room x ≤ length r → cells text (take (room x) r ++ y) x ≡ cells text r x
    same-run (Held k d) text r y o =
        let n : length (take k r) ≡ k = length-take-le k r o in
        ap (map (held d)) (ap (λ i. take i (take k r ++ y)) (sym n) ∙ take-front (take k r) y)
    same-run (Typed s b d) text r y o = refl

pub made_runs : (w : Deed) (xs : List Run) (text : List ℕ) (r : PartialText) (n : ℕ) (x : Run) (at : ℕ) (a : List Cell) (l : PartialText) → Within (length text) xs → rooms xs ≡ length r
    → rasp_of a ≡ l → length l ≡ n → first_due w n xs ≡ Some (x, at) → MadeRuns w text xs (made_first w xs) r (edit_at text at x) a l
made_runs w [] text r n x at a l i e of len f = absurd cc
made_runs w (y ∷ xs) text r n x at a l i e of len f =
    let o : room y ≤ length r = omega (arith, e) in
    let next : first_due w (n + room y) xs ≡ Some (x, at)
    → MadeRuns w text xs (made_first w xs) (drop (room y) r) (edit_at text at x) (a ++ cells text r y) (l ++ take (room y) r) =
    λ g. made_runs w xs text (drop (room y) r) (n + room y) x at (a ++ cells text r y) (l ++ take (room y) r) i.1 (omega (arith, e, length-drop (room y) r))
    (members-append in_rasp a (cells text r y) ∙ (ap (λ z. z ++ rasp_of (cells text r y)) of ∙ ap (λ z. l ++ z) (rasp-run y text r)))
    (omega (arith, length-append l (take (room y) r), len, length-take-le (room y) r o)) g in
    step (is_due w y) refl f next
  where
    step : (t : Bool) → is_due w y ≡ t → cond t (Some (y, n)) (first_due w (n + room y) xs) ≡ Some (x, at)
        → (first_due w (n + room y) xs ≡ Some (x, at)
        → MadeRuns w text xs (made_first w xs) (drop (room y) r) (edit_at text at x) (a ++ cells text r y) (l ++ take (room y) r))
        → MadeRuns w text (y ∷ xs) (cond t (made_run y ∷ xs) (y ∷ made_first w xs)) r (edit_at text at x) a l
    step true t g next =
        let one : y ≡ x = pair-first g in
        let two : n ≡ at = pair-second g in
        subst (λ z. MadeRuns w text (y ∷ xs) (made_run y ∷ xs) r (edit_at text at z) a l) one
        (subst (λ z. MadeRuns w text (y ∷ xs) (made_run y ∷ xs) r (edit_at text z y) a l) two (made-here w y xs text r n a l t i.0 e of len))
    step false t g next = made-past w y xs (made_first w xs) text r (edit_at text at x) a l (omega (arith, e)) (next g)

-- ## A layer

next-limit : (m : Option ℕ) (xs : List Run) → limit_of (next_deed m xs) ≡ m
next-limit m xs = go (has_due (Removes m) xs)
  where
    go : (t : Bool) → limit_of (cond t (Removes m) (Inserts m)) ≡ m
    go true = refl
    go false = refl

-- what the next edit does to the cells, of whichever group, and of the groups up to the limit
pub record NextIs (m : Option ℕ) (l : Layer) (r : PartialText) (e : Edit) : Type 0 where
  pub is : IsMade (cells_over r l) (edit_change e) (cells_over (put r (edit_change e)) (next_made m l))
  pub over : IsOver (put r (edit_change e)) (next_made m l)
  pub by : (g : ℕ) → m ≡ Some g → IsMadeBy g (cells_over r l) (edit_change e) (cells_over (put r (edit_change e)) (next_made m l))

pub next_is : (m : Option ℕ) (l : Layer) (r : PartialText) (e : Edit) → IsLayer l → IsOver r l → next_edit m l ≡ Some e → NextIs m l r e
next_is m l r e h o f = go (first_due (next_deed m (runs_of l)) 0 (runs_of l)) refl f
  where
    go : (found : Option (Run × ℕ)) → first_due (next_deed m (runs_of l)) 0 (runs_of l) ≡ found → option_map (λ x. edit_at l.text x.1 x.0) found ≡ Some e → NextIs m l r e
    go None g f = absurd cc
    go (Some x) g f =
        let same : edit_at l.text x.1 x.0 ≡ e = some-is f in
        let w = next_deed m (runs_of l) in
        let t : MadeRuns w l.text (runs_of l) (runs_of (next_made m l)) r (edit_at l.text x.1 x.0) [] [] =
        subst (λ xs. MadeRuns w l.text (runs_of l) xs r (edit_at l.text x.1 x.0) [] []) (sym (flat_made w l.blocks))
        (made_runs w (runs_of l) l.text r 0 x.0 x.1 [] [] h.within o refl refl g) in
        subst (NextIs m l r) same (record {
          is = subst (λ y. IsMade (cells_over r l) (edit_change (edit_at l.text x.1 x.0)) (cells_of l.text y (runs_of (next_made m l)))) (sym t.put) t.is;
          over = t.holds ∙ ap length (sym t.put);
          by = λ b is. subst (λ y. IsMadeBy b (cells_over r l) (edit_change (edit_at l.text x.1 x.0)) (cells_of l.text y (runs_of (next_made m l)))) (sym t.put) (t.by b (next-limit m (runs_of l) ∙ is));
        })

-- ## The runs that the code makes

waits-made : (w : Deed) (xs : List Run) → waits (made_first w xs) ≤ waits xs
waits-made w [] = omega arith
waits-made w (x ∷ xs) = step (is_due w x) (waits-made w xs)
  where
    none : (y : Run) → wait (made_run y) ≡ 0
    none (Held k d) = refl
    none (Typed s b d) = refl

    step : (t : Bool) → waits (made_first w xs) ≤ waits xs → waits (cond t (made_run x ∷ xs) (x ∷ made_first w xs)) ≤ wait x + waits xs
    step true h = omega (arith, none x)
    step false h = omega (arith, h)

within-made : (w : Deed) (n : ℕ) (xs : List Run) → Within n xs → Within n (made_first w xs)
within-made w n [] i = tt
within-made w n (x ∷ xs) i = step (is_due w x) (within-made w n xs i.1)
  where
    none : (y : Run) → reach (made_run y) ≤ n
    none (Held k d) = omega arith
    none (Typed s b d) = omega arith

    step : (t : Bool) → Within n (made_first w xs) → Within n (cond t (made_run x ∷ xs) (x ∷ made_first w xs))
    step true h = (none x, i.1)
    step false h = (i.0, h)

pub next_layer : (m : Option ℕ) (l : Layer) → IsLayer l → rasp_length (next_made m l) ≤ max_runes → IsLayer (next_made m l)
next_layer m l h few =
    let w = next_deed m (runs_of l) in
    let made : runs_of (next_made m l) ≡ made_first w (runs_of l) = flat_made w l.blocks in
    record {
      text = h.text;
      within = subst (Within (length l.text)) (sym made) (within-made w (length l.text) (runs_of l) h.within);
      rasp = few;
      waiting = omega (arith, ap waits made, waits-made w (runs_of l), h.waiting);
    }

-- the run at which an edit is due takes no more of the text than there is
pub due_reach : (w : Deed) (xs : List Run) (n k at : ℕ) (x : Run) → Within n xs → first_due w k xs ≡ Some (x, at) → (reach x ≤ n) × (at + room x ≤ k + rooms xs)
due_reach w [] n k at x i f = absurd cc
due_reach w (y ∷ xs) n k at x i f = step (is_due w y) f (λ g. due_reach w xs n (k + room y) at x i.1 g)
  where
    step : (t : Bool) → cond t (Some (y, k)) (first_due w (k + room y) xs) ≡ Some (x, at)
        → (first_due w (k + room y) xs ≡ Some (x, at) → (reach x ≤ n) × (at + room x ≤ (k + room y) + rooms xs))
        → (reach x ≤ n) × (at + room x ≤ k + (room y + rooms xs))
    step true g next =
        let one : y ≡ x = pair-first g in
        let two : k ≡ at = pair-second g in
        (subst (λ z. reach z ≤ n) one i.0, subst (λ z. at + room z ≤ k + (room y + rooms xs)) one (omega (arith, two)))
    step false g next = let h = next g in (h.0, omega (arith, h.1))

-- the first run at which an edit is due is the one at place i
pub made_at : (w : Deed) (xs : List Run) (i : ℕ) (x : Run) → i < length xs → drop i xs ≡ x ∷ drop (i + 1) xs → is_due w x ≡ true
    → take i xs ++ made_first w (drop i xs) ≡ made_first w xs → set xs i (made_run x) ≡ made_first w xs
made_at w xs i x l here due e =
    let front : take i (set xs i (made_run x)) ≡ take i xs = take-set xs i (made_run x) in
    let back : drop i (set xs i (made_run x)) ≡ made_run x ∷ drop (i + 1) xs = drop-set xs i (made_run x) l in
    let made : made_first w (drop i xs) ≡ made_run x ∷ drop (i + 1) xs = ap (made_first w) here ∙ ap (λ b. cond b (made_run x ∷ drop (i + 1) xs) (x ∷ made_first w (drop (i + 1) xs))) due in
    sym (take-append-drop i (set xs i (made_run x)))
    ∙ (ap (λ z. z ++ drop i (set xs i (made_run x))) front ∙ (ap (λ z. take i xs ++ z) (back ∙ sym made) ∙ e))

-- ## Where nothing waits

due-none : (w : Deed) (xs : List Run) (n : ℕ) → (first_due w n xs ≡ None) ↔ (has_due w xs ≡ false)
due-none w [] n = (λ e. refl, λ e. refl)
due-none w (x ∷ xs) n = step (is_due w x) (due-none w xs (n + room x))
  where
    step : (t : Bool) → (first_due w (n + room x) xs ≡ None) ↔ (has_due w xs ≡ false)
        → (cond t (Some (x, n)) (first_due w (n + room x) xs) ≡ None) ↔ (t || has_due w xs ≡ false)
    step true h = (λ e. absurd cc, λ e. absurd cc)
    step false h = h

none-there : (n : ℕ) → nat_eq n 0 ≡ not (nat_lt 0 n)
none-there zero = refl
none-there (suc n) = grind (arith, nat_tests)

and-true : (b : Bool) → b && true ≡ b
and-true true = refl
and-true false = refl

rests-run : (x : Run) → run_rests x ≡ not (is_due (Removes None) x || is_due (Inserts None) x)
rests-run (Held n None) = refl
rests-run (Held n (Some g)) = none-there n ∙ ap not (sym (and-true (nat_lt 0 n)) ∙ sym (or-false (nat_lt 0 n && true)))
  where
    or-false : (b : Bool) → b || false ≡ b
    or-false true = refl
    or-false false = refl
rests-run (Typed s b d) = none-there s.count ∙ ap not (sym (and-true (nat_lt 0 s.count)))

-- nothing waits exactly if no edit of any group is left
pub rests-left : (xs : List Run) → rests xs ≡ not (has_next None xs)
rests-left [] = refl
rests-left (x ∷ xs) = ap (λ z. z && rests xs) (rests-run x) ∙ (ap (λ z. not (is_due (Removes None) x || is_due (Inserts None) x) && z) (rests-left xs)
    ∙ order (is_due (Removes None) x) (is_due (Inserts None) x) (has_due (Removes None) xs) (has_due (Inserts None) xs))
  where
    order : (a b c d : Bool) → not (a || b) && not (c || d) ≡ not ((a || c) || (b || d))
    order true b c d = refl
    order false true true d = refl
    order false true false d = refl
    order false false c d = refl

pub rests_said : (xs : List Run) → (has_next None xs ≡ false) ↔ IsTrue (rests xs)
rests_said xs = (λ e. rests-left xs ∙ ap not e, λ r. turned (has_next None xs) (sym (rests-left xs) ∙ r))
  where
    turned : (b : Bool) → not b ≡ true → b ≡ false
    turned false e = refl
    turned true e = absurd cc

pub none_left : (m : Option ℕ) (xs : List Run) → (first_due (next_deed m xs) 0 xs ≡ None) ↔ (has_next m xs ≡ false)
none_left m xs = step (has_due (Removes m) xs) refl
  where
    step : (t : Bool) → has_due (Removes m) xs ≡ t → (first_due (cond t (Removes m) (Inserts m)) 0 xs ≡ None) ↔ (t || has_due (Inserts m) xs ≡ false)
    step true e = (λ f. let no = (due-none (Removes m) xs 0).0 f in sym e ∙ no, λ r. absurd cc)
    step false e = due-none (Inserts m) xs 0

-- ## What an edit that is made leads to

goes-texts : (s : List Cell) → All (λ c. IsTrue (goes c)) s → (shown_of s ≡ []) × (length (rasp_of s) ≡ length s)
goes-texts [] h = (refl, refl)
goes-texts (c ∷ s) h = step c.born c.died (h 0 c (omega arith)) (goes-texts s (λ k d l. h (suc k) d (omega (arith, l))))
  where
    step : (b d : Option ℕ) → IsTrue (is_none b && not (is_none d)) → (shown_of s ≡ []) × (length (rasp_of s) ≡ length s)
        → (map (λ (x : Cell). x.member) (cond (is_none d) (c ∷ filter is_shown s) (filter is_shown s)) ≡ [])
        × (length (map (λ (x : Cell). x.member) (cond (is_none b) (c ∷ filter in_rasp s) (filter in_rasp s))) ≡ suc (length s))
    step None (Some g) t i = (i.0, ap suc i.1)
    step None None t i = absurd cc
    step (Some g) d t i = absurd cc

waits-rasp : (s : List Cell) → All (λ c. IsTrue (not (in_rasp c))) s → rasp_of s ≡ []
waits-rasp [] h = refl
waits-rasp (c ∷ s) h = step c.born (h 0 c (omega arith)) (waits-rasp s (λ k d l. h (suc k) d (omega (arith, l))))
  where
    step : (b : Option ℕ) → IsTrue (not (is_none b)) → rasp_of s ≡ []
        → map (λ (x : Cell). x.member) (cond (is_none b) (c ∷ filter in_rasp s) (filter in_rasp s)) ≡ []
    step None t i = absurd cc
    step (Some g) t i = i

come-rasp : (s : List Cell) → rasp_of (map come s) ≡ map (λ (c : Cell). c.member) s
come-rasp [] = refl
come-rasp (c ∷ s) = ap (λ z. c.member ∷ z) (come-rasp s)

come-shown : (s : List Cell) → shown_of (map come s) ≡ shown_of s
come-shown [] = refl
come-shown (c ∷ s) = step c.died (come-shown s)
  where
    step : (d : Option ℕ) → shown_of (map come s) ≡ shown_of s
        → map (λ (x : Cell). x.member) (cond (is_none d) (record { member = c.member; born = None; died = d } ∷ filter is_shown (map come s)) (filter is_shown (map come s)))
        ≡ map (λ (x : Cell). x.member) (cond (is_none d) (c ∷ filter is_shown s) (filter is_shown s))
    step None i = ap (λ z. c.member ∷ z) i
    step (Some g) i = i

-- what it does to the rasp and to what is shown
pub made_texts : (cs : List Cell) (e : Change) (ds : List Cell) → IsMade cs e ds → (shown_of ds ≡ shown_of cs) × (rasp_of ds ≡ put (rasp_of cs) e)
made_texts cs e ds m = go m.made
  where
    a : List Cell
    a = m.before

    s : List Cell
    s = m.stretch

    b : List Cell
    b = m.behind

    old-shown : shown_of cs ≡ shown_of a ++ shown_of s ++ shown_of b
    old-shown = ap shown_of m.old ∙ members-three is_shown a s b

    old-rasp : rasp_of cs ≡ rasp_of a ++ rasp_of s ++ rasp_of b
    old-rasp = ap rasp_of m.old ∙ members-three in_rasp a s b

    go : IsTaken a s b e ds ⊎ IsBrought a s b e ds → (shown_of ds ≡ shown_of cs) × (rasp_of ds ≡ put (rasp_of cs) e)
    go (inl t) =
        let g = goes-texts s t.all in (
          ap shown_of t.cells ∙ (members-append is_shown a b
              ∙ (ap (λ z. z ++ shown_of b) (sym (append-nil (shown_of a)) ∙ ap (λ z. shown_of a ++ z) (sym g.0)) ∙ sym old-shown)),
          ap rasp_of t.cells ∙ (members-append in_rasp a b
              ∙ (sym (replaced-block (rasp_of a) (rasp_of s) [] (rasp_of b) (length (rasp_of a)) (length s) refl g.1)
              ∙ (ap (λ z. put z (record { p = length (rasp_of a); q = length (rasp_of a) + length s; new = [] })) (sym (append_assoc (rasp_of a) (rasp_of s) (rasp_of b)) ∙ sym old-rasp)
              ∙ ap (put (rasp_of cs)) (sym t.change)))),
        )
    go (inr t) =
        let g = waits-rasp s t.all in
        let w = map (λ (c : Cell). c.member) s in (
          ap shown_of t.cells ∙ (members-three is_shown a (map come s) b
              ∙ (ap (λ z. shown_of a ++ z ++ shown_of b) (come-shown s) ∙ sym old-shown)),
          ap rasp_of t.cells ∙ (members-three in_rasp a (map come s) b
              ∙ (ap (λ z. rasp_of a ++ z ++ rasp_of b) (come-rasp s)
              ∙ (append_assoc (rasp_of a) w (rasp_of b)
              ∙ (sym (inserted-block (rasp_of a) w (rasp_of b) (length (rasp_of a)) refl)
              ∙ (ap (λ z. put z (record { p = length (rasp_of a); q = length (rasp_of a); new = w }))
              (ap (λ z. z ++ rasp_of b) (sym (append-nil (rasp_of a)) ∙ ap (λ z. rasp_of a ++ z) (sym g)) ∙ sym old-rasp)
              ∙ ap (put (rasp_of cs)) (sym t.change)))))),
        )

pub ruleset next_facts = (none_left, rests_said)

pub ruleset make_facts = (next_layer, next_is)

pub ruleset rest_facts = (rests-left)
