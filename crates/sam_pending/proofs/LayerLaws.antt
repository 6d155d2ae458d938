-- Layers: runs over a text, and the rasp below.
use Rattle.std.proofs.Common.{Option, ◌≡◌, refl, sym, ap, ◌∙◌, subst, ℕ, ◌+◌, ◌-◌, ◌≤◌, ◌<◌, Bool, true, false, cond, nat_eq, List, [], ◌∷◌, ◌++◌, map, length, take, drop, replicate, Some, None, arith, length-append, length-drop, length-take-le, take-append-drop, ◌&&◌, not, max}
use Rattle.std.proofs.lemmas.List.{drop-append-le, take-append-le, length-map, length-replicate}
use Rattle.std.proofs.lemmas.Bool.Decides.{nat_tests}
use Rattle.std.proofs.lemmas.List.Elements.{All-append, All-map, All-nil, filter-append}
use Rattle.std.specs.List.{All}
use Rattle.sam_runes.specs.Texts.{max_runes}
use Rattle.sam_pending.specs.Cells.{PartialText, shown_of, shown_place, resting, replaced, inserted, removed, IsNewest, IsUpTo, waiting_of, in_rasp, Cell}
use Rattle.sam_pending.specs.Runs.{spot, held, typed_by, runes_of, room, rooms, waits, above, cells, cells_of, reach, Within, size, front, back, dying_runs, waiting_runs, run_rests, rests, IsSame, kept_text, kept_runs, group_or, newest_run, newest_of}
use Rattle.sam_pending.specs.Blocks.{flat}
use Rattle.sam_pending.specs.Layers.{Layer, IsLayer, IsTidied, most_kept, part_members}
use Rattle.sam_pending.specs.declared.run.Stretch.{Stretch}
use Rattle.sam_pending.specs.declared.run.Run.{Run}
use Rattle.sam_pending.specs.declared.run.Run.TheVariants.{Held, Typed}
use Rattle.sam_pending.specs.declared.run.Side.TheVariants.{Above, Below}
use Rattle.sam_pending.proofs.RunLaws.{waiting-held, waiting-typed, runes-size, replaced_runs, inserted_runs, removed_runs, rooms-append, rooms-front, rooms-waiting, within-front, within-back, within-append, within-more, dies, drop-front, take-whole}
use Rattle.sam_pending.proofs.JoinLaws.{waits-append, waits-split, rooms-split}
use Rattle.sam_pending.proofs.KeptLaws.{kept-runs, kept-rooms, kept-waits, kept-above, kept-within, kept-length}
use Rattle.sam_pending.proofs.ShownLaws.{above_shown, placed, removed_told}
use Rattle.sam_pending.proofs.FillLaws.{fills, filled_shown}
use Rattle.sam_pending.proofs.SpotLaws.{Stands, StandsAt, spot_stands}

pub above-most : (xs : List Run) → above xs ≤ rooms xs + waits xs
above-most [] = omega arith
above-most (Held n None ∷ xs) = omega (arith, above-most xs)
above-most (Held n (Some h) ∷ xs) = omega (arith, above-most xs)
above-most (Typed s g None ∷ xs) = omega (arith, above-most xs)
above-most (Typed s g (Some h) ∷ xs) = omega (arith, above-most xs)

pub ruleset new_facts = (above-most)

pub ruleset length_facts = (above-most, above_shown)

-- ## A longer text

pub longer-text : (xs : List Run) (text s : List ℕ) (r : PartialText) → Within (length text) xs → cells_of (text ++ s) r xs ≡ cells_of text r xs
longer-text [] text s r w = refl
longer-text (Held n d ∷ xs) text s r w = ap (λ z. map (held d) (take n r) ++ z) (longer-text xs text s (drop n r) w.1)
longer-text (Typed t g d ∷ xs) text s r w =
    let same : runes_of (text ++ s) t ≡ runes_of text t =
    ap (take t.count) (drop-append-le t.start text s (omega (arith, w.0)))
    ∙ take-append-le t.count (drop t.start text) s (omega (arith, w.0, length-drop t.start text)) in
    ap (λ z. map (typed_by g d) z ++ cells_of (text ++ s) r xs) same ∙ ap (λ z. map (typed_by g d) (runes_of text t) ++ z) (longer-text xs text s r w.1)

-- the runes at the end of the text
pub last-runes : (text s : List ℕ) (t : Stretch) → t.start ≡ length text → t.count ≡ length s → runes_of (text ++ s) t ≡ s
last-runes text s t e l =
    ap (λ k. take t.count (drop k (text ++ s))) e ∙ (ap (take t.count) (drop-front text s) ∙ (ap (λ k. take k s) l ∙ take-whole s))

-- ## What dies

pub waits-dying : (g : ℕ) (xs : List Run) → waits (dying_runs g xs) ≤ waits xs
waits-dying g [] = omega arith
waits-dying g (Held n None ∷ xs) = omega (arith, waits-dying g xs)
waits-dying g (Held n (Some h) ∷ xs) = omega (arith, waits-dying g xs)
waits-dying g (Typed s b (Some h) ∷ xs) = omega (arith, waits-dying g xs)
waits-dying g (Typed s b None ∷ xs) = step (nat_eq g b) (waits-dying g xs)
  where
    step : (t : Bool) → waits (dying_runs g xs) ≤ waits xs → waits (cond t [] (Typed s b (Some g) ∷ []) ++ dying_runs g xs) ≤ s.count + waits xs
    step true h = omega (arith, h)
    step false h = omega (arith, h)

within-dying : (g n : ℕ) (xs : List Run) → Within n xs → Within n (dying_runs g xs)
within-dying g n [] w = tt
within-dying g n (Held k None ∷ xs) w = (omega arith, within-dying g n xs w.1)
within-dying g n (Held k (Some h) ∷ xs) w = (omega arith, within-dying g n xs w.1)
within-dying g n (Typed s b (Some h) ∷ xs) w = (w.0, within-dying g n xs w.1)
within-dying g n (Typed s b None ∷ xs) w = step (nat_eq g b) w.0 (within-dying g n xs w.1)
  where
    step : (t : Bool) → s.start + s.count ≤ n → Within n (dying_runs g xs) → Within n (cond t [] (Typed s b (Some g) ∷ []) ++ dying_runs g xs)
    step true l h = h
    step false l h = (l, h)

-- ## The user's change

pub record Replaces (text s : List ℕ) (bs ds : List (List Run)) (g p q : ℕ) : Type 0 where
  pub layer : IsLayer (record { text = text ++ s; blocks = ds })
  pub cells : (r : PartialText) → rooms (flat bs) ≡ length r → cells_of (text ++ s) r (flat ds) ≡ replaced g p q s (cells_of text r (flat bs))
  pub rasp : rooms (flat ds) ≡ rooms (flat bs)

pub replaces : (text s : List ℕ) (bs ds : List (List Run)) (g p q : ℕ) (t : Stretch) → IsLayer (record { text = text; blocks = bs })
    → t.start ≡ length text → t.count ≡ length s → length text + length s ≤ most_kept → waits (flat bs) + length s ≤ max_runes
    → IsSame (flat ds)
    (front Above p (flat bs) ++ Typed t g None ∷ [] ++ dying_runs g (front Above (q - p) (back Above p (flat bs))) ++ back Above (q - p) (back Above p (flat bs)))
    → Replaces text s bs ds g p q
replaces text s bs ds g p q t h start count kept waiting same =
    let xs = flat bs in
    let after = flat ds in
    let n = length (text ++ s) in
    let size_of = length-append text s in
    let f = front Above p xs in
    let b = back Above p xs in
    let m = front Above (q - p) b in
    let z = back Above (q - p) b in
    let d = dying_runs g m in
    let one = Typed t g None ∷ [] in
    let w : Within n xs = within-more (length text) n xs (omega (arith, size_of)) h.within in
    let wb = within-back Above p xs n w in
    let all : Within n (f ++ one ++ d ++ z) =
    within-append n (f ++ one ++ d) z
    (within-append n (f ++ one) d (within-append n f one (within-front Above p xs n w) (omega (arith, size_of, start, count), tt)) (within-dying g n m (within-front Above (q - p) b n wb)))
    (within-back Above (q - p) b n wb) in
    let ro = rooms-append (f ++ one ++ d) z in
    let rp = rooms-append (f ++ one) d in
    let rq = rooms-append f one in
    let wo = waits-append (f ++ one ++ d) z in
    let wp = waits-append (f ++ one) d in
    let wq = waits-append f one in
    let rasp : rooms after ≡ rooms xs =
    omega (arith, same.rooms, ro, rp, rq, (dies g m [] []).1, rooms-split Above p xs, rooms-split Above (q - p) b) in
    record {
      layer = record {
        text = omega (arith, size_of, kept);
        within = same.within n all;
        rasp = omega (arith, rasp, h.rasp);
        waiting = omega (arith, same.waits, wo, wp, wq, waits-dying g m, waits-split Above p xs, waits-split Above (q - p) b, count, waiting);
      };
      cells = λ r e.
          same.cells (text ++ s) r
          ∙ (replaced_runs xs (text ++ s) g p q t r w e
          ∙ (ap (λ y. replaced g p q y (cells_of (text ++ s) r xs)) (last-runes text s t start count)
          ∙ ap (replaced g p q s) (longer-text xs text s r h.within)));
      rasp = rasp;
    }

-- ## The text anew

pub record Keeps (text kept : List ℕ) (bs ds : List (List Run)) : Type 0 where
  pub layer : IsLayer (record { text = kept; blocks = ds })
  pub tidied : IsTidied (record { text = text; blocks = bs }) (record { text = kept; blocks = ds })

pub keeps : (text kept : List ℕ) (bs ds : List (List Run)) → IsLayer (record { text = text; blocks = bs })
    → kept ≡ kept_text text (flat bs) → flat ds ≡ kept_runs 0 (flat bs) → Keeps text kept bs ds
keeps text kept bs ds h e f =
    let xs = flat bs in
    let n : length kept ≡ waits xs = ap length e ∙ kept-length text xs h.within in
    let rasp : rooms (flat ds) ≡ rooms xs = ap rooms f ∙ kept-rooms 0 xs in
    let waiting : waits (flat ds) ≡ waits xs = ap waits f ∙ kept-waits 0 xs in
    record {
      layer = record {
        text = omega (arith, n, h.waiting);
        within = subst (Within (length kept)) (sym f) (kept-within 0 (length kept) xs (omega (arith, n)));
        rasp = omega (arith, rasp, h.rasp);
        waiting = omega (arith, waiting, h.waiting);
      };
      tidied = record {
        cells = λ r o. ap (λ t. cells_of t r (flat ds)) e ∙ (ap (cells_of (kept_text text xs) r) f ∙ kept-runs text xs r h.within);
        rasp = rasp;
        waiting = waiting;
        shown = ap above f ∙ kept-above 0 xs;
      };
    }

pub stays-tidied : (l : Layer) → IsTidied l l
stays-tidied l = record { cells = λ r e. refl; rasp = refl; waiting = refl; shown = refl }

-- ## The host's insertion

pub record Inserts (text : List ℕ) (bs ds : List (List Run)) (p n : ℕ) : Type 0 where
  pub layer : IsLayer (record { text = text; blocks = ds })
  pub cells : (r new : PartialText) → rooms (flat bs) ≡ length r → length new ≡ n
      → cells_of text (take p r ++ new ++ drop p r) (flat ds) ≡ inserted p new (cells_of text r (flat bs))
  pub place : (r : PartialText) → rooms (flat bs) ≡ length r → above (front Below p (flat bs)) ≡ shown_place p (cells_of text r (flat bs))
  pub rasp : rooms (flat ds) ≡ rooms (flat bs) + n

pub inserts : (text : List ℕ) (bs ds : List (List Run)) (p n : ℕ) → IsLayer (record { text = text; blocks = bs }) → p ≤ rooms (flat bs) → rooms (flat bs) + n ≤ max_runes
    → IsSame (flat ds) (front Below p (flat bs) ++ Held n None ∷ [] ++ back Below p (flat bs)) → Inserts text bs ds p n
inserts text bs ds p n h l m same =
    let xs = flat bs in
    let after = flat ds in
    let f = front Below p xs in
    let one = Held n None ∷ [] in
    let b = back Below p xs in
    let k = length text in
    let rasp : rooms after ≡ rooms xs + n = omega (arith, same.rooms, rooms-append (f ++ one) b, rooms-append f one, rooms-split Below p xs) in
    record {
      layer = record {
        text = h.text;
        within = same.within k (within-append k (f ++ one) b (within-append k f one (within-front Below p xs k h.within) (omega arith, tt)) (within-back Below p xs k h.within));
        rasp = omega (arith, rasp, m);
        waiting = omega (arith, same.waits, waits-append (f ++ one) b, waits-append f one, waits-split Below p xs, h.waiting);
      };
      cells = λ r new e u. same.cells text (take p r ++ new ++ drop p r) ∙ inserted_runs xs text p n r new h.within e (omega (arith, e, l)) u;
      place = λ r e. placed xs text p r h.within e;
      rasp = rasp;
    }

-- ## The host's removal

pub waits-waiting : (xs : List Run) → waits (waiting_runs xs) ≡ waits xs
waits-waiting [] = refl
waits-waiting (Held n d ∷ xs) = omega (arith, waits-waiting xs)
waits-waiting (Typed s g d ∷ xs) = omega (arith, waits-waiting xs)

within-waiting : (n : ℕ) (xs : List Run) → Within n xs → Within n (waiting_runs xs)
within-waiting n [] w = tt
within-waiting n (Held k d ∷ xs) w = within-waiting n xs w.1
within-waiting n (Typed s g d ∷ xs) w = (w.0, within-waiting n xs w.1)

pub record Removes (text : List ℕ) (bs ds : List (List Run)) (p q : ℕ) : Type 0 where
  pub layer : IsLayer (record { text = text; blocks = ds })
  pub cells : (r : PartialText) → rooms (flat bs) ≡ length r → cells_of text (take p r ++ drop q r) (flat ds) ≡ removed p q (cells_of text r (flat bs))
  pub rasp : rooms (flat ds) + (q - p) ≡ rooms (flat bs)

pub removes : (text : List ℕ) (bs ds : List (List Run)) (p q : ℕ) → IsLayer (record { text = text; blocks = bs }) → p ≤ q → q ≤ rooms (flat bs)
    → IsSame (flat ds) (front Below p (flat bs) ++ waiting_runs (front Below (q - p) (back Below p (flat bs))) ++ back Below (q - p) (back Below p (flat bs)))
    → Removes text bs ds p q
removes text bs ds p q h o l same =
    let xs = flat bs in
    let after = flat ds in
    let f = front Below p xs in
    let b = back Below p xs in
    let m = front Below (q - p) b in
    let z = back Below (q - p) b in
    let y = waiting_runs m in
    let k = length text in
    let wb = within-back Below p xs k h.within in
    let rs = rooms-split Below p xs in
    let rt = rooms-split Below (q - p) b in
    let am : rooms m ≡ q - p = rooms-front (q - p) b (omega (arith, rs, rooms-front p xs (omega (arith, o, l)), l)) in
    let rasp : rooms after + (q - p) ≡ rooms xs = omega (arith, same.rooms, rooms-append (f ++ y) z, rooms-append f y, rooms-waiting m, rs, rt, am) in
    record {
      layer = record {
        text = h.text;
        within = same.within k (within-append k (f ++ y) z (within-append k f y (within-front Below p xs k h.within) (within-waiting k m (within-front Below (q - p) b k wb))) (within-back Below (q - p) b k wb));
        rasp = omega (arith, rasp, h.rasp);
        waiting = omega (arith, same.waits, waits-append (f ++ y) z, waits-append f y, waits-waiting m, waits-split Below p xs, waits-split Below (q - p) b, h.waiting);
      };
      cells = λ r e. same.cells text (take p r ++ drop q r) ∙ removed_runs xs text p q r o h.within e (omega (arith, e, l));
      rasp = rasp;
    }

-- ## Nothing waits

rest-run : (x : Run) (text : List ℕ) (r : PartialText) → run_rests x ≡ true → cells text r x ≡ resting (take (room x) r)
rest-run (Held n None) text r e = refl
rest-run (Held n (Some h)) text r e = let z : n ≡ 0 = grind (arith, e, nat_tests) in rw z refl
rest-run (Typed s b d) text r e = let z : s.count ≡ 0 = grind (arith, e, nat_tests) in ap (λ k. map (typed_by b d) (take k (drop s.start text))) z

resting-append : (a b : PartialText) → resting (a ++ b) ≡ resting a ++ resting b
resting-append [] b = refl
resting-append (m ∷ a) b = ap (λ z. held None m ∷ z) (resting-append a b)

pub all-rest : (xs : List Run) (text : List ℕ) (r : PartialText) → rests xs ≡ true → rooms xs ≡ length r → cells_of text r xs ≡ resting r
all-rest [] text [] e l = refl
all-rest [] text (m ∷ r) e l = absurd (omega (arith, l))
all-rest (x ∷ xs) text r e l =
    let both = and-parts (run_rests x) (rests xs) e in
    ap (λ z. z ++ cells_of text (drop (room x) r) xs) (rest-run x text r both.0)
    ∙ (ap (λ z. resting (take (room x) r) ++ z) (all-rest xs text (drop (room x) r) both.1 (omega (arith, l, length-drop (room x) r)))
    ∙ (sym (resting-append (take (room x) r) (drop (room x) r)) ∙ ap resting (take-append-drop (room x) r)))
  where
    and-parts : (a b : Bool) → a && b ≡ true → (a ≡ true) × (b ≡ true)
    and-parts true b e = (refl, e)
    and-parts false b e = absurd cc

pub ruleset rests_facts = (all-rest)

pub ruleset put_facts = (replaces)

pub ruleset tidy_facts = (keeps, stays-tidied, above-most)

pub ruleset insert_facts = (inserts, above-most)

pub ruleset remove_facts = (removes, removed_told, above-most)

pub ruleset fill_facts = (fills, filled_shown, above-most)

pub ruleset replace_facts = (above-most)

pub ruleset shown_facts = (spot_stands)

pub within-kept : (text : List ℕ) (bs : List (List Run)) → IsLayer (record { text = text; blocks = bs }) → Within most_kept (flat bs)
within-kept text bs h = within-more (length text) most_kept (flat bs) h.text h.within

-- ## What stands at a place

part-is : (text : List ℕ) (r : PartialText) (y : Run) (n : ℕ) → map (λ c. c.member) (cells text (drop n r) y) ≡ part_members text r y n
part-is text r (Held k d) n = held-members (take k (drop n r))
  where
    held-members : (m : PartialText) → map (λ c. c.member) (map (held d) m) ≡ m
    held-members [] = refl
    held-members (x ∷ m) = ap (λ z. x ∷ z) (held-members m)
part-is text r (Typed s g d) n = typed-members (runes_of text s)
  where
    typed-members : (m : List ℕ) → map (λ c. c.member) (map (typed_by g d) m) ≡ map Some m
    typed-members [] = refl
    typed-members (x ∷ m) = ap (λ z. Some x ∷ z) (typed-members m)

part-length : (text : List ℕ) (r : PartialText) (y : Run) (n : ℕ) → reach y ≤ length text → n + room y ≤ length r → length (part_members text r y n) ≡ size y
part-length text r (Held k d) n w l = length-take-le k (drop n r) (omega (arith, l, length-drop n r))
part-length text r (Typed s g d) n w l = length-map (runes_of text s) Some ∙ runes-size text s w

pub shown_there : (text : List ℕ) (bs : List (List Run)) (p n : ℕ) (y : Run) (r : PartialText) → IsLayer (record { text = text; blocks = bs }) → spot p 0 (flat bs) ≡ Some (y, n) → rooms (flat bs) ≡ length r
    → (0 < length (part_members text r y n))
    × (take (length (part_members text r y n)) (drop p (shown_of (cells_of text r (flat bs)))) ≡ part_members text r y n)
shown_there text bs p n y r h e l =
    let s : Stands text r (cells_of text r (flat bs)) p y n = subst (StandsAt text r (cells_of text r (flat bs)) p) e (spot_stands (flat bs) text r p 0 h.within (omega (arith, l))) in
    let k = part-length text r y n s.within s.there in (
      omega (arith, k, s.some),
      ap (λ j. take j (drop p (shown_of (cells_of text r (flat bs))))) k ∙ (s.is ∙ part-is text r y n),
    )

pub shown_none : (text : List ℕ) (bs : List (List Run)) (p : ℕ) → IsLayer (record { text = text; blocks = bs }) → spot p 0 (flat bs) ≡ None → above (flat bs) ≤ p
shown_none text bs p h e =
    let r : PartialText = replicate (rooms (flat bs)) None in
    let l : length r ≡ rooms (flat bs) = length-replicate (rooms (flat bs)) None in
    let s : length (shown_of (cells_of text r (flat bs))) ≤ p = subst (StandsAt text r (cells_of text r (flat bs)) p) e (spot_stands (flat bs) text r p 0 h.within (omega (arith, l))) in
    omega (arith, s, above_shown (flat bs) text r h.within (omega (arith, l)))

pub shown_reach : (text : List ℕ) (bs : List (List Run)) (p n : ℕ) (y : Run) → IsLayer (record { text = text; blocks = bs }) → spot p 0 (flat bs) ≡ Some (y, n) → reach y ≤ length text
shown_reach text bs p n y h e =
    let r : PartialText = replicate (rooms (flat bs)) None in
    let l : length r ≡ rooms (flat bs) = length-replicate (rooms (flat bs)) None in
    let s : Stands text r (cells_of text r (flat bs)) p y n = subst (StandsAt text r (cells_of text r (flat bs)) p) e (spot_stands (flat bs) text r p 0 h.within (omega (arith, l))) in
    s.within

-- ## Groups and what waits

up-to : (a b : ℕ) (o : Option ℕ) → a ≤ b → IsUpTo a o → IsUpTo b o
up-to a b None l h = tt
up-to a b (Some g) l h = omega (arith, l, h)

newer : (a b : ℕ) (cs : List Cell) → a ≤ b → All (IsNewest a) cs → All (IsNewest b) cs
newer a b cs l h = λ k d i. let p = h k d i in (up-to a b _ l p.0, up-to a b _ l p.1)

of-group : (g : ℕ) (o : Option ℕ) → group_or o ≤ g → IsUpTo g o
of-group g None l = tt
of-group g (Some h) l = l

run-newest : (x : Run) (text : List ℕ) (r : PartialText) → All (IsNewest (newest_run x)) (cells text r x)
run-newest (Held n d) text r = All-map (IsNewest (group_or d)) (held d) (take n r) (λ k y i. (tt, of-group (group_or d) d (omega arith)))
run-newest (Typed s b d) text r =
    let g = max b (group_or d) in
    All-map (IsNewest g) (typed_by b d) (runes_of text s) (λ k y i. (grind arith, of-group g d (grind arith)))

none-left : (x : Run) (text : List ℕ) (r : PartialText) → nat_eq (size x) 0 ≡ true → cells text r x ≡ []
none-left (Held n d) text r e = let z : n ≡ 0 = grind (arith, e, nat_tests) in ap (λ k. map (held d) (take k r)) z
none-left (Typed s b d) text r e = let z : s.count ≡ 0 = grind (arith, e, nat_tests) in ap (λ k. map (typed_by b d) (take k (drop s.start text))) z

pub newest_cells : (xs : List Run) (text : List ℕ) (r : PartialText) → All (IsNewest (newest_of xs)) (cells_of text r xs)
newest_cells [] text r = All-nil (IsNewest 0)
newest_cells (x ∷ xs) text r = step (nat_eq (size x) 0) refl (newest_cells xs text (drop (room x) r))
  where
    step : (t : Bool) → nat_eq (size x) 0 ≡ t → All (IsNewest (newest_of xs)) (cells_of text (drop (room x) r) xs)
        → All (IsNewest (cond t (newest_of xs) (max (newest_run x) (newest_of xs)))) (cells text r x ++ cells_of text (drop (room x) r) xs)
    step true e h = subst (λ z. All (IsNewest (newest_of xs)) (z ++ cells_of text (drop (room x) r) xs)) (sym (none-left x text r e)) h
    step false e h =
        let g = max (newest_run x) (newest_of xs) in
        All-append (IsNewest g) (cells text r x) (cells_of text (drop (room x) r) xs)
        (newer (newest_run x) g (cells text r x) (grind arith) (run-newest x text r))
        (newer (newest_of xs) g (cells_of text (drop (room x) r) xs) (grind arith) h)

pub waits_cells : (xs : List Run) (text : List ℕ) (r : PartialText) → Within (length text) xs → length (waiting_of (cells_of text r xs)) ≡ waits xs
waits_cells [] text r w = refl
waits_cells (Held n d ∷ xs) text r w =
    ap length (filter-append (λ c. not (in_rasp c)) (map (held d) (take n r)) (cells_of text (drop n r) xs) ∙ ap (λ z. z ++ waiting_of (cells_of text (drop n r) xs)) (waiting-held d (take n r)))
    ∙ (waits_cells xs text (drop n r) w.1 ∙ omega arith)
waits_cells (Typed s g d ∷ xs) text r w =
    let m = runes_of text s in
    omega (
      arith,
      ap length (filter-append (λ c. not (in_rasp c)) (map (typed_by g d) m) (cells_of text r xs) ∙ ap (λ z. z ++ waiting_of (cells_of text r xs)) (waiting-typed g d m)),
      length-append (map (typed_by g d) m) (waiting_of (cells_of text r xs)),
      length-map m (typed_by g d),
      runes-size text s w.0,
      waits_cells xs text r w.1,
    )

pub ruleset waiting_facts = (above-most, waits_cells)
