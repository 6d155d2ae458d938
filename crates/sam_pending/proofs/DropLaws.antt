-- Runes that wait are taken back.
use Rattle.std.proofs.Common.{◌≡◌, refl, sym, ap, ◌∙◌, subst, ℕ, suc, ◌+◌, ◌-◌, ◌≤◌, ◌<◌, Bool, true, false, not, cond, List, [], ◌∷◌, ◌++◌, map, length, take, drop, Option, Some, None, arith, append_assoc, append-nil, length-append, length-drop, take-append-drop, IsTrue}
use Rattle.std.specs.Prelude.{option_map, set}
use Rattle.std.specs.List.{All}
use Rattle.std.proofs.lemmas.List.{take-set, drop-set}
use Rattle.std.proofs.lemmas.List.Elements.{All-map}
use Rattle.sam_runes.specs.declared.edit.Edit.{Edit}
use Rattle.sam_pending.specs.Cells.{PartialText, Cell, IsTakenBack, rasp_of, shown_of, in_rasp, is_shown, text_at}
use Rattle.sam_pending.specs.Groups.{TakesPlace}
use Rattle.sam_pending.specs.Runs.{typed_by, runes_of, room, rooms, wait, waits, above, cells, cells_of, reach, Within, is_due, first_due, first_typed, taken_first, edit_at, made_run, made_first, has_due, next_deed, lost_in, passed}
use Rattle.sam_pending.specs.Blocks.{flat, made_in}
use Rattle.sam_pending.specs.Layers.{Layer, IsLayer, DropsNext, cells_over, first_dropped, next_edit, runs_of}
use Rattle.sam_pending.specs.declared.told.Dropped.{Dropped}
use Rattle.sam_pending.specs.declared.run.Run.{Run}
use Rattle.sam_pending.specs.declared.run.Run.TheVariants.{Held, Typed}
use Rattle.sam_pending.specs.declared.run.Deed.TheVariants.{Removes, Inserts}
use Rattle.sam_pending.proofs.CellLaws.{members-append, members-three}
use Rattle.sam_pending.proofs.RunLaws.{take-front, drop-front}
use Rattle.sam_pending.proofs.LayerLaws.{above-most}
use Rattle.sam_pending.proofs.ShownLaws.{above_shown}
use Rattle.sam_pending.proofs.DueLaws.{members-typed}
use Rattle.sam_pending.proofs.TakenLaws.{behind_run, lost_run}
use Rattle.sam_pending.proofs.FirstLaws.{flat_made, flat_taken}

-- ## What it does to the two texts

none-in_rasp : (h : List Cell) → All (λ c. IsTrue (not (in_rasp c))) h → rasp_of h ≡ []
none-in_rasp [] all = refl
none-in_rasp (c ∷ h) all =
    let first : not (in_rasp c) ≡ true = all 0 c (omega arith) in
    let rest : rasp_of h ≡ [] = none-in_rasp h (λ k d i. all (suc k) d (omega (arith, i))) in
    grind (arith, first, rest)

pub taken_back : (cs ds : List Cell) (p n : ℕ) (s : List ℕ) → IsTakenBack cs p n s ds
    → (shown_of ds ≡ take p (shown_of cs) ++ drop (p + n) (shown_of cs)) × (rasp_of ds ≡ rasp_of cs)
taken_back cs ds p n s t =
    let a = shown_of t.before in
    let h = shown_of t.stretch in
    let z = shown_of t.behind in
    let whole : shown_of cs ≡ a ++ h ++ z = ap shown_of t.old ∙ members-three is_shown t.before t.stretch t.behind in
    let front : take p (shown_of cs) ≡ a = ap (λ k. take k (shown_of cs)) t.place ∙ (ap (take (length a)) (whole ∙ append_assoc a h z) ∙ take-front a (h ++ z)) in
    let end : p + n ≡ length (a ++ h) = omega (arith, t.place, t.count, length-append a h) in
    let back : drop (p + n) (shown_of cs) ≡ z = ap (λ k. drop k (shown_of cs)) end ∙ (ap (drop (length (a ++ h))) whole ∙ drop-front (a ++ h) z) in
    let none = none-in_rasp t.stretch t.all in (
      ap shown_of t.new ∙ (members-append is_shown t.before t.behind ∙ (ap (λ y. y ++ z) (sym front) ∙ ap (λ y. take p (shown_of cs) ++ y) (sym back))),
      ap rasp_of t.new ∙ (members-append in_rasp t.before t.behind ∙ sym (ap rasp_of t.old ∙ (members-three in_rasp t.before t.stretch t.behind
          ∙ (ap (λ y. rasp_of t.before ++ y ++ rasp_of t.behind) none ∙ ap (λ y. y ++ rasp_of t.behind) (append-nil (rasp_of t.before)))))),
    )

-- ## The runs

pub above_one : (x : Run) (xs : List Run) → above (x ∷ xs) ≡ above (x ∷ []) + above xs
above_one (Held n None) xs = omega arith
above_one (Held n (Some g)) xs = omega arith
above_one (Typed s b None) xs = omega arith
above_one (Typed s b (Some g)) xs = omega arith

shown-one : (x : Run) (text : List ℕ) (r : PartialText) → reach x ≤ length text → room x ≤ length r → length (shown_of (cells text r x)) ≡ above (x ∷ [])
shown-one x text r w l =
    ap (λ y. length (shown_of y)) (sym (append-nil (cells text r x))) ∙ above_shown (x ∷ []) text r (w, tt) (omega (arith, l))

takes-here : (m : Option ℕ) (x : Run) (xs : List Run) (text : List ℕ) (r : PartialText) (n : ℕ) (a : List Cell) (g z : ℕ) → is_due (Inserts m) x ≡ true
    → reach x ≤ length text → n ≡ length (shown_of a)
    → TakesPlace g z (z - passed g (z - length (text_at g a)) x) (a ++ cells_of text r (x ∷ xs)) n (above (x ∷ [])) (edit_at text 0 x).text (a ++ cells_of text r xs)
takes-here m (Held k d) xs text r n a g z due w len = absurd cc
takes-here m (Typed s b d) xs text r n a g z due w len =
    let t = runes_of text s in
    let h = map (typed_by b d) t in
    record {
      taken = record {
        before = a;
        stretch = h;
        behind = cells_of text r xs;
        old = sym (append_assoc a h (cells_of text r xs));
        new = refl;
        all = All-map (λ c. IsTrue (not (in_rasp c))) (typed_by b d) t (λ j y i. refl);
        runes = sym (members-typed b d t);
        place = len;
        count = sym (shown-one (Typed s b d) text r w (omega arith));
      };
      place = ap (λ k. z - k) (sym (lost_run g z a (Typed s b d) text r w (omega arith)));
    }

pub takes_back : (m : Option ℕ) (xs : List Run) (text : List ℕ) (r : PartialText) (n : ℕ) (x : Run) (at : ℕ) (a : List Cell) (g z : ℕ) → Within (length text) xs
    → rooms xs ≤ length r → n ≡ length (shown_of a) → first_typed m n xs ≡ Some (x, at)
    → TakesPlace g z (z - lost_in m g (z - length (text_at g a)) xs) (a ++ cells_of text r xs) at (above (x ∷ [])) (edit_at text 0 x).text (a ++ cells_of text r (taken_first m xs))
takes_back m [] text r n x at a g z w l len f = absurd cc
takes_back m (y ∷ xs) text r n x at a g z w l len f =
    step (is_due (Inserts m) y) refl f
    (λ e. takes_back m xs text (drop (room y) r) (n + above (y ∷ [])) x at (a ++ cells text r y) g z w.1 (omega (arith, l, length-drop (room y) r)) further e)
  where
    k : ℕ
    k = z - length (text_at g a)

    j : ℕ
    j = z - length (text_at g (a ++ cells text r y))

    old : List Cell
    old = a ++ cells text r y ++ cells_of text (drop (room y) r) xs

    new : List Cell
    new = a ++ cells text r y ++ cells_of text (drop (room y) r) (taken_first m xs)

    further : n + above (y ∷ []) ≡ length (shown_of (a ++ cells text r y))
    further =
        omega (
          arith,
          len,
          ap length (members-append is_shown a (cells text r y)),
          length-append (shown_of a) (shown_of (cells text r y)),
          shown-one y text r w.0 (omega (arith, l)),
        )

    step : (t : Bool) → is_due (Inserts m) y ≡ t → cond t (Some (y, n)) (first_typed m (n + above (y ∷ [])) xs) ≡ Some (x, at)
        → (first_typed m (n + above (y ∷ [])) xs ≡ Some (x, at) → TakesPlace g z (z - lost_in m g j xs) old at (above (x ∷ [])) (edit_at text 0 x).text new)
        → TakesPlace g z (z - cond t (passed g k y) (lost_in m g (k - passed g k y) xs)) (a ++ cells_of text r (y ∷ xs)) at (above (x ∷ [])) (edit_at text 0 x).text
        (a ++ cells_of text r (cond t (Held 0 None ∷ xs) (y ∷ taken_first m xs)))
    step true t e next =
        let both : (y, n) ≡ (x, at) = cc in
        let one : y ≡ x = ap (λ (p : Run × ℕ). p.0) both in
        let two : n ≡ at = ap (λ (p : Run × ℕ). p.1) both in
        subst (λ v. TakesPlace g z (z - passed g k y) (a ++ cells_of text r (y ∷ xs)) at (above (v ∷ [])) (edit_at text 0 v).text (a ++ cells_of text r xs)) one
        (subst (λ v. TakesPlace g z (z - passed g k y) (a ++ cells_of text r (y ∷ xs)) v (above (y ∷ [])) (edit_at text 0 y).text (a ++ cells_of text r xs)) two
        (takes-here m y xs text r n a g z t w.0 len))
    step false t e next =
        subst (λ v. TakesPlace g z (z - lost_in m g v xs) (a ++ cells_of text r (y ∷ xs)) at (above (x ∷ [])) (edit_at text 0 x).text (a ++ cells_of text r (y ∷ taken_first m xs)))
        (behind_run g z a y text r w.0 (omega (arith, l)))
        (subst (λ v. TakesPlace g z (z - lost_in m g j xs) v at (above (x ∷ [])) (edit_at text 0 x).text (a ++ cells_of text r (y ∷ taken_first m xs))) (append_assoc a (cells text r y) (cells_of text (drop (room y) r) xs))
        (subst (λ v. TakesPlace g z (z - lost_in m g j xs) old at (above (x ∷ [])) (edit_at text 0 x).text v) (append_assoc a (cells text r y) (cells_of text (drop (room y) r) (taken_first m xs))) (next e)))

pub typed_reach : (m : Option ℕ) (xs : List Run) (n k : ℕ) (x : Run) (at : ℕ) → Within n xs → first_typed m k xs ≡ Some (x, at) → reach x ≤ n
typed_reach m [] n k x at w f = absurd cc
typed_reach m (y ∷ xs) n k x at w f = step (is_due (Inserts m) y) f (λ g. typed_reach m xs n (k + above (y ∷ [])) x at w.1 g)
  where
    step : (t : Bool) → cond t (Some (y, k)) (first_typed m (k + above (y ∷ [])) xs) ≡ Some (x, at)
        → (first_typed m (k + above (y ∷ [])) xs ≡ Some (x, at) → reach x ≤ n) → reach x ≤ n
    step true g next =
        let both : (y, k) ≡ (x, at) = cc in
        let one : y ≡ x = ap (λ (p : Run × ℕ). p.0) both in
        subst (λ z. reach z ≤ n) one w.0
    step false g next = next g

taken-rooms : (m : Option ℕ) (xs : List Run) → rooms (taken_first m xs) ≡ rooms xs
taken-rooms m [] = refl
taken-rooms m (x ∷ xs) = step (is_due (Inserts m) x) refl (taken-rooms m xs)
  where
    none : (y : Run) → is_due (Inserts m) y ≡ true → room y ≡ 0
    none (Held k d) due = absurd cc
    none (Typed s b d) due = refl

    step : (t : Bool) → is_due (Inserts m) x ≡ t → rooms (taken_first m xs) ≡ rooms xs → rooms (cond t (Held 0 None ∷ xs) (x ∷ taken_first m xs)) ≡ room x + rooms xs
    step true due h = omega (arith, none x due)
    step false due h = omega (arith, h)

taken-waits : (m : Option ℕ) (xs : List Run) → waits (taken_first m xs) ≤ waits xs
taken-waits m [] = omega arith
taken-waits m (x ∷ xs) = step (is_due (Inserts m) x) (taken-waits m xs)
  where
    step : (t : Bool) → waits (taken_first m xs) ≤ waits xs → waits (cond t (Held 0 None ∷ xs) (x ∷ taken_first m xs)) ≤ wait x + waits xs
    step true h = omega arith
    step false h = omega (arith, h)

taken-within : (m : Option ℕ) (n : ℕ) (xs : List Run) → Within n xs → Within n (taken_first m xs)
taken-within m n [] w = tt
taken-within m n (x ∷ xs) w = step (is_due (Inserts m) x) (taken-within m n xs w.1)
  where
    step : (t : Bool) → Within n (taken_first m xs) → Within n (cond t (Held 0 None ∷ xs) (x ∷ taken_first m xs))
    step true h = (omega arith, w.1)
    step false h = (w.0, h)

-- the first run whose runes are due is the one at place i
pub taken_at : (m : Option ℕ) (xs : List Run) (i : ℕ) (x : Run) → i < length xs → drop i xs ≡ x ∷ drop (i + 1) xs → is_due (Inserts m) x ≡ true
    → take i xs ++ taken_first m (drop i xs) ≡ taken_first m xs → set xs i (Held 0 None) ≡ taken_first m xs
taken_at m xs i x l here due e =
    let none = Held 0 None in
    let front : take i (set xs i none) ≡ take i xs = take-set xs i none in
    let back : drop i (set xs i none) ≡ none ∷ drop (i + 1) xs = drop-set xs i none l in
    let taken : taken_first m (drop i xs) ≡ none ∷ drop (i + 1) xs = ap (taken_first m) here ∙ ap (λ b. cond b (none ∷ drop (i + 1) xs) (x ∷ taken_first m (drop (i + 1) xs))) due in
    sym (take-append-drop i (set xs i none))
    ∙ (ap (λ z. z ++ drop i (set xs i none)) front ∙ (ap (λ z. take i xs ++ z) (back ∙ sym taken) ∙ e))

pub taken_fits : (m : Option ℕ) (xs : List Run) → rooms (taken_first m xs) + waits (taken_first m xs) ≤ rooms xs + waits xs
taken_fits m xs = omega (arith, taken-rooms m xs, taken-waits m xs)

pub dropped_layer : (m : Option ℕ) (l : Layer) → IsLayer l → IsLayer (first_dropped m l)
dropped_layer m l h =
    let taken : runs_of (first_dropped m l) ≡ taken_first m (runs_of l) = flat_taken m l.blocks in
    record {
      text = h.text;
      within = subst (Within (length l.text)) (sym taken) (taken-within m (length l.text) (runs_of l) h.within);
      rasp = omega (arith, ap rooms taken, taken-rooms m (runs_of l), h.rasp);
      waiting = omega (arith, ap waits taken, taken-waits m (runs_of l), h.waiting);
    }

-- ## The next edit, where it has no room

removes-less : (m : Option ℕ) (xs : List Run) → rooms (made_first (Removes m) xs) ≤ rooms xs
removes-less m [] = omega arith
removes-less m (x ∷ xs) = step (is_due (Removes m) x) refl (removes-less m xs)
  where
    none : (y : Run) → is_due (Removes m) y ≡ true → room (made_run y) ≡ 0
    none (Held k d) due = refl
    none (Typed s b d) due = absurd cc

    step : (t : Bool) → is_due (Removes m) x ≡ t → rooms (made_first (Removes m) xs) ≤ rooms xs → rooms (cond t (made_run x ∷ xs) (x ∷ made_first (Removes m) xs)) ≤ room x + rooms xs
    step true due h = omega (arith, none x due)
    step false due h = omega (arith, h)

none-typed : (m : Option ℕ) (xs : List Run) (n : ℕ) → first_typed m n xs ≡ None → rooms (made_first (Inserts m) xs) ≡ rooms xs
none-typed m [] n f = refl
none-typed m (x ∷ xs) n f = step (is_due (Inserts m) x) f (λ g. none-typed m xs (n + above (x ∷ [])) g)
  where
    step : (t : Bool) → cond t (Some (x, n)) (first_typed m (n + above (x ∷ [])) xs) ≡ None
        → (first_typed m (n + above (x ∷ [])) xs ≡ None → rooms (made_first (Inserts m) xs) ≡ rooms xs)
        → rooms (cond t (made_run x ∷ xs) (x ∷ made_first (Inserts m) xs)) ≡ room x + rooms xs
    step true g next = absurd cc
    step false g next = omega (arith, next g)

full-inserts : (m : Option ℕ) (xs : List Run) → rooms xs < rooms (made_first (next_deed m xs) xs) → next_deed m xs ≡ Inserts m
full-inserts m xs more = step (has_due (Removes m) xs) refl
  where
    step : (t : Bool) → has_due (Removes m) xs ≡ t → cond t (Removes m) (Inserts m) ≡ Inserts m
    step false is = refl
    step true is =
        let removes : next_deed m xs ≡ Removes m = ap (λ t. cond t (Removes m) (Inserts m)) is in
        absurd (omega (arith, more, ap (λ w. rooms (made_first w xs)) removes, removes-less m xs))

-- there is more once the edit is made
made-more : (m : Option ℕ) (bs : List (List Run)) → rooms (flat bs) < rooms (flat (made_in (next_deed m (flat bs)) bs))
    → rooms (flat bs) < rooms (made_first (next_deed m (flat bs)) (flat bs))
made-more m bs more = omega (arith, more, ap rooms (flat_made (next_deed m (flat bs)) bs))

-- some runes wait
pub full_waits : (m : Option ℕ) (bs : List (List Run)) → rooms (flat bs) < rooms (flat (made_in (next_deed m (flat bs)) bs)) → first_typed m 0 (flat bs) ≡ None → ⊥
full_waits m bs more none =
    let xs = flat bs in
    let grows = made-more m bs more in
    omega (arith, grows, ap (λ w. rooms (made_first w xs)) (full-inserts m xs grows), none-typed m xs 0 none)

due-same : (m : Option ℕ) (xs : List Run) (n k : ℕ) → option_map (λ (z : Run × ℕ). z.0) (first_due (Inserts m) k xs) ≡ option_map (λ (z : Run × ℕ). z.0) (first_typed m n xs)
due-same m [] n k = refl
due-same m (y ∷ xs) n k = step (is_due (Inserts m) y) (due-same m xs (n + above (y ∷ [])) (k + room y))
  where
    step : (t : Bool) → option_map (λ (z : Run × ℕ). z.0) (first_due (Inserts m) (k + room y) xs) ≡ option_map (λ (z : Run × ℕ). z.0) (first_typed m (n + above (y ∷ [])) xs)
        → option_map (λ (z : Run × ℕ). z.0) (cond t (Some (y, k)) (first_due (Inserts m) (k + room y) xs)) ≡ option_map (λ (z : Run × ℕ). z.0) (cond t (Some (y, n)) (first_typed m (n + above (y ∷ [])) xs))
    step true h = refl
    step false h = h

edit-text : (t : List ℕ) (n : ℕ) (x : Run) → (edit_at t n x).text ≡ (edit_at t 0 x).text
edit-text t n (Held k d) = refl
edit-text t n (Typed s b d) = refl

next-text : (m : Option ℕ) (l : Layer) (x : Run) (at : ℕ) → next_deed m (runs_of l) ≡ Inserts m → first_typed m 0 (runs_of l) ≡ Some (x, at)
    → option_map (λ (e : Edit). e.text) (next_edit m l) ≡ Some (edit_at l.text 0 x).text
next-text m l x at deed f = go (first_due (next_deed m (runs_of l)) 0 (runs_of l)) refl
  where
    first : option_map (λ (z : Run × ℕ). z.0) (first_due (next_deed m (runs_of l)) 0 (runs_of l)) ≡ Some x
    first =
        ap (λ w. option_map (λ (z : Run × ℕ). z.0) (first_due w 0 (runs_of l))) deed
        ∙ (due-same m (runs_of l) 0 0 ∙ ap (option_map (λ (z : Run × ℕ). z.0)) f)

    go : (o : Option (Run × ℕ)) → first_due (next_deed m (runs_of l)) 0 (runs_of l) ≡ o
        → option_map (λ (e : Edit). e.text) (option_map (λ (z : Run × ℕ). edit_at l.text z.1 z.0) o) ≡ Some (edit_at l.text 0 x).text
    go None is =
        let wrong : None ≡ Some x = ap (option_map (λ (z : Run × ℕ). z.0)) (sym is) ∙ first in
        absurd cc
    go (Some z) is =
        let same : Some z.0 ≡ Some x = ap (option_map (λ (z : Run × ℕ). z.0)) (sym is) ∙ first in
        let here : z.0 ≡ x = cc in
        ap Some (edit-text l.text z.1 z.0 ∙ ap (λ y. (edit_at l.text 0 y).text) here)

pub drops_next : (m : Option ℕ) (l : Layer) (x : Run) (at : ℕ) (d : Dropped) → IsLayer l → rooms (runs_of l) < rooms (flat (made_in (next_deed m (runs_of l)) l.blocks))
    → first_typed m 0 (runs_of l) ≡ Some (x, at) → d.place ≡ at → d.count ≡ above (x ∷ []) → d.text ≡ (edit_at l.text 0 x).text
    → DropsNext m l d
drops_next m l x at d h more f place count text = record {
  next = next-text m l x at (full-inserts m (runs_of l) (made-more m l.blocks more)) f ∙ ap Some (sym text);
  cells = λ r o.
      rw (place, count, text, flat_taken m l.blocks) ((takes_back m (runs_of l) l.text r 0 x at [] 0 0 h.within (omega (arith, o)) refl f).taken);
  over = λ r o. ap rooms (flat_taken m l.blocks) ∙ (taken-rooms m (runs_of l) ∙ o);
  places = λ r g z o.
      let whole : z - 0 ≡ z = omega arith in
      rw (place, count, text, flat_taken m l.blocks)
      (subst (λ v. TakesPlace g z (z - lost_in m g v (runs_of l)) (cells_over r l) at (above (x ∷ [])) (edit_at l.text 0 x).text (cells_of l.text r (taken_first m (runs_of l)))) whole
      (takes_back m (runs_of l) l.text r 0 x at [] g z h.within (omega (arith, o)) refl f));
}

pub ruleset drop_facts = (dropped_layer, full_waits, drops_next)

pub ruleset take_facts = (taken_fits, above-most)
