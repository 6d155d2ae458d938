-- Runs in blocks: their sums, and walks over them.
use Rattle.std.proofs.Common.{◌≡◌, refl, sym, ap, ◌∙◌, subst, ℕ, ◌+◌, ◌-◌, ◌≤◌, ◌<◌, min, max, Bool, true, false, cond, ◌||◌, ◌&&◌, nat_le, nat_lt, nat_eq, List, [], ◌∷◌, ◌++◌, length, take, drop, get_or, Option, Some, None, arith, append-nil, take-append-drop}
use Rattle.std.proofs.lemmas.List.{drop_more}
use Rattle.std.proofs.lemmas.Bool.{leb-true}
use Rattle.std.proofs.lemmas.Bool.Decides.{leb_tells}
use Rattle.sam_pending.specs.Blocks.{flat, removing_run, inserting_run, older, oldest_removing, oldest_inserting, reaches}
use Rattle.sam_pending.specs.Runs.{room, rooms, wait, waits, above, size, run_counts, head_of, tail_of, spot, newest_of, newest_run, is_due, is_up_to, has_due, first_due, first_typed, made_run, made_first, Within}
use Rattle.sam_pending.specs.declared.run.Run.{Run}
use Rattle.sam_pending.specs.declared.run.Run.TheVariants.{Held, Typed}
use Rattle.sam_pending.specs.declared.run.Deed.{Deed}
use Rattle.sam_pending.specs.declared.run.Deed.TheVariants.{Removes, Inserts}
use Rattle.sam_pending.specs.declared.run.Side.TheVariants.{Above}
use Rattle.sam_pending.proofs.RunLaws.{rooms-append}
use Rattle.sam_pending.proofs.JoinLaws.{waits-append, above-append, take-add, within-first, within-last}
use Rattle.sam_pending.proofs.FlatLaws.{flat-append}
use Rattle.sam_pending.proofs.LayerLaws.{above-most}

-- ## Sums

pub newest-append : (a b : List Run) → newest_of (a ++ b) ≡ max (newest_of a) (newest_of b)
newest-append [] b = grind arith
newest-append (x ∷ a) b = step (nat_eq (size x) 0) (newest-append a b)
  where
    step : (t : Bool) → newest_of (a ++ b) ≡ max (newest_of a) (newest_of b)
        → cond t (newest_of (a ++ b)) (max (newest_run x) (newest_of (a ++ b))) ≡ max (cond t (newest_of a) (max (newest_run x) (newest_of a))) (newest_of b)
    step true e = e
    step false e = grind (arith, e)

-- ## The oldest group

pub older_none : (a : Option ℕ) → older a None ≡ a
older_none None = refl
older_none (Some a) = refl

pub older_moves : (a b c : Option ℕ) → older (older a b) c ≡ older a (older b c)
older_moves None b c = refl
older_moves (Some a) None c = refl
older_moves (Some a) (Some b) None = refl
older_moves (Some a) (Some b) (Some c) = ap Some (grind arith)

pub ruleset older_facts = (older_none, older_moves)

reach-older : (m a b : Option ℕ) → reaches m (older a b) ≡ reaches m a || reaches m b
reach-older m None b = refl
reach-older None (Some a) None = refl
reach-older (Some g) (Some a) None = or-no (nat_le a g)
  where
    or-no : (t : Bool) → t ≡ t || false
    or-no true = refl
    or-no false = refl
reach-older None (Some a) (Some b) = refl
reach-older (Some g) (Some a) (Some b) = step (nat_le (min a b) g) (nat_le a g) (nat_le b g) refl refl refl
  where
    step : (s t u : Bool) → nat_le (min a b) g ≡ s → nat_le a g ≡ t → nat_le b g ≡ u → s ≡ t || u
    step true true u d e f = refl
    step true false true d e f = refl
    step true false false d e f = absurd (grind (arith, leb_tells, d, e, f))
    step false true u d e f = absurd (grind (arith, leb_tells, d, e, f))
    step false false true d e f = absurd (grind (arith, leb_tells, d, e, f))
    step false false false d e f = refl

removes-run : (m : Option ℕ) (x : Run) → is_due (Removes m) x ≡ reaches m (removing_run x)
removes-run m (Held n None) = step (nat_lt 0 n)
  where
    step : (t : Bool) → false ≡ reaches m (cond t None None)
    step true = refl
    step false = refl
removes-run m (Held n (Some g)) = step (nat_lt 0 n)
  where
    step : (t : Bool) → t && is_up_to m g ≡ reaches m (cond t (Some g) None)
    step true = refl
    step false = refl
removes-run m (Typed s b d) = refl

inserts-run : (m : Option ℕ) (x : Run) → is_due (Inserts m) x ≡ reaches m (inserting_run x)
inserts-run m (Held n d) = refl
inserts-run m (Typed s b d) = step (nat_lt 0 s.count)
  where
    step : (t : Bool) → t && is_up_to m b ≡ reaches m (cond t (Some b) None)
    step true = refl
    step false = refl

pub removes_reach : (m : Option ℕ) (xs : List Run) → has_due (Removes m) xs ≡ reaches m (oldest_removing xs)
removes_reach m [] = refl
removes_reach m (x ∷ xs) =
    ap (λ z. z || has_due (Removes m) xs) (removes-run m x)
    ∙ (ap (λ z. reaches m (removing_run x) || z) (removes_reach m xs) ∙ sym (reach-older m (removing_run x) (oldest_removing xs)))

pub inserts_reach : (m : Option ℕ) (xs : List Run) → has_due (Inserts m) xs ≡ reaches m (oldest_inserting xs)
inserts_reach m [] = refl
inserts_reach m (x ∷ xs) =
    ap (λ z. z || has_due (Inserts m) xs) (inserts-run m x)
    ∙ (ap (λ z. reaches m (inserting_run x) || z) (inserts_reach m xs) ∙ sym (reach-older m (inserting_run x) (oldest_inserting xs)))

-- ## The first run at which an edit is due

pub first-past : (w : Deed) (a b : List Run) (n : ℕ) → has_due w a ≡ false → first_due w n (a ++ b) ≡ first_due w (n + rooms a) b
first-past w [] b n e = ap (λ k. first_due w k b) (omega arith)
first-past w (x ∷ a) b n e = step (is_due w x) e (first-past w a b (n + room x))
  where
    step : (t : Bool) → t || has_due w a ≡ false → (has_due w a ≡ false → first_due w (n + room x) (a ++ b) ≡ first_due w ((n + room x) + rooms a) b)
        → cond t (Some (x, n)) (first_due w (n + room x) (a ++ b)) ≡ first_due w (n + (room x + rooms a)) b
    step true f i = absurd cc
    step false f i = i f ∙ ap (λ k. first_due w k b) (omega arith)

pub first-here : (w : Deed) (a b : List Run) (n : ℕ) → has_due w a ≡ true → first_due w n (a ++ b) ≡ first_due w n a
first-here w [] b n e = absurd cc
first-here w (x ∷ a) b n e = step (is_due w x) e (first-here w a b (n + room x))
  where
    step : (t : Bool) → t || has_due w a ≡ true → (has_due w a ≡ true → first_due w (n + room x) (a ++ b) ≡ first_due w (n + room x) a)
        → cond t (Some (x, n)) (first_due w (n + room x) (a ++ b)) ≡ cond t (Some (x, n)) (first_due w (n + room x) a)
    step true f i = refl
    step false f i = i f

pub made_none : (w : Deed) (xs : List Run) (n : ℕ) → first_due w n xs ≡ None → made_first w xs ≡ xs
made_none w [] n e = refl
made_none w (x ∷ xs) n e = step (is_due w x) e (made_none w xs (n + room x))
  where
    step : (t : Bool) → cond t (Some (x, n)) (first_due w (n + room x) xs) ≡ None → (first_due w (n + room x) xs ≡ None → made_first w xs ≡ xs)
        → cond t (made_run x ∷ xs) (x ∷ made_first w xs) ≡ x ∷ xs
    step true f i = absurd cc
    step false f i = ap (λ z. x ∷ z) (i f)

room-wait : (x : Run) → (room (made_run x) + wait (made_run x) ≤ room x + wait x) × (room (made_run x) ≤ room x + wait x)
room-wait (Held k d) = (omega arith, omega arith)
room-wait (Typed s b d) = (omega arith, omega arith)

pub made_fits : (w : Deed) (xs : List Run) → rooms (made_first w xs) + waits (made_first w xs) ≤ rooms xs + waits xs
made_fits w [] = omega arith
made_fits w (x ∷ xs) = step (is_due w x) (made_fits w xs)
  where
    step : (t : Bool) → rooms (made_first w xs) + waits (made_first w xs) ≤ rooms xs + waits xs
        → rooms (cond t (made_run x ∷ xs) (x ∷ made_first w xs)) + waits (cond t (made_run x ∷ xs) (x ∷ made_first w xs)) ≤ (room x + rooms xs) + (wait x + waits xs)
    step true h = omega (arith, (room-wait x).0)
    step false h = omega (arith, h)

run-of : Run → Option (Run × ℕ) → Run
run-of x None = x
run-of x (Some p) = p.0

some-first : (x y : Run) (n k : ℕ) → ◌≡◌ {A = Option (Run × ℕ)} (Some (x, n)) (Some (y, k)) → x ≡ y
unfolding run-of
some-first x y n k e = ap (run-of x) e

pub made_room : (w : Deed) (xs : List Run) (n k : ℕ) (y : Run) → first_due w n xs ≡ Some (y, k)
    → (room y ≤ rooms xs) × (rooms (made_first w xs) ≡ rooms xs - room y + room (made_run y)) × (rooms xs - room y + room (made_run y) ≤ rooms xs + waits xs)
made_room w [] n k y e = absurd cc
made_room w (x ∷ xs) n k y e = step (is_due w x) e (λ f. made_room w xs (n + room x) k y f)
  where
    step : (t : Bool) → cond t (Some (x, n)) (first_due w (n + room x) xs) ≡ Some (y, k)
        → (first_due w (n + room x) xs ≡ Some (y, k)
        → (room y ≤ rooms xs) × (rooms (made_first w xs) ≡ rooms xs - room y + room (made_run y)) × (rooms xs - room y + room (made_run y) ≤ rooms xs + waits xs))
        → (room y ≤ room x + rooms xs)
        × (rooms (cond t (made_run x ∷ xs) (x ∷ made_first w xs)) ≡ (room x + rooms xs) - room y + room (made_run y))
        × ((room x + rooms xs) - room y + room (made_run y) ≤ (room x + rooms xs) + (wait x + waits xs))
    step true f next =
        let same : x ≡ y = some-first x y n k f in
        subst (λ z. (room z ≤ room x + rooms xs)
        × (room (made_run x) + rooms xs ≡ (room x + rooms xs) - room z + room (made_run z))
        × ((room x + rooms xs) - room z + room (made_run z) ≤ (room x + rooms xs) + (wait x + waits xs))) same
        (omega arith, omega arith, omega (arith, (room-wait x).1))
    step false f next = let h = next f in (omega (arith, h.0), omega (arith, h.0, h.1), omega (arith, h.0, h.2))

-- ## What stands at a place of what is shown

pub spot-here : (xs ys : List Run) (p n : ℕ) → p < above xs → spot p n (xs ++ ys) ≡ spot p n xs
spot-here [] ys p n l = absurd (omega (arith, l))
spot-here (x ∷ xs) ys p n l = step (run_counts Above x) (nat_le (size x) p) refl l (spot-here xs ys (p - size x) (n + room x)) (spot-here xs ys p (n + room x))
  where
    step : (t u : Bool) → nat_le (size x) p ≡ u → p < cond t (size x + above xs) (above xs)
        → (p - size x < above xs → spot (p - size x) (n + room x) (xs ++ ys) ≡ spot (p - size x) (n + room x) xs)
        → (p < above xs → spot p (n + room x) (xs ++ ys) ≡ spot p (n + room x) xs)
        → cond t (cond u (spot (p - size x) (n + room x) (xs ++ ys)) (Some (tail_of p x, n + room (head_of p x)))) (spot p (n + room x) (xs ++ ys))
        ≡ cond t (cond u (spot (p - size x) (n + room x) xs) (Some (tail_of p x, n + room (head_of p x)))) (spot p (n + room x) xs)
    step true true e i f g = let le : size x ≤ p = leb-true (size x) p e in f (omega (arith, i, le))
    step true false e i f g = refl
    step false u e i f g = g i

pub spot-past : (xs ys : List Run) (p n : ℕ) → above xs ≤ p → spot p n (xs ++ ys) ≡ spot (p - above xs) (n + rooms xs) ys
spot-past [] ys p n l = let a : p ≡ p - 0 = omega arith in let b : n ≡ n + 0 = omega arith in ap (λ k. spot k n ys) a ∙ ap (λ k. spot (p - 0) k ys) b
spot-past (x ∷ xs) ys p n l = step (run_counts Above x) (nat_le (size x) p) refl l (spot-past xs ys (p - size x) (n + room x)) (spot-past xs ys p (n + room x))
  where
    step : (t u : Bool) → nat_le (size x) p ≡ u → cond t (size x + above xs) (above xs) ≤ p
        → (above xs ≤ p - size x → spot (p - size x) (n + room x) (xs ++ ys) ≡ spot (p - size x - above xs) ((n + room x) + rooms xs) ys)
        → (above xs ≤ p → spot p (n + room x) (xs ++ ys) ≡ spot (p - above xs) ((n + room x) + rooms xs) ys)
        → cond t (cond u (spot (p - size x) (n + room x) (xs ++ ys)) (Some (tail_of p x, n + room (head_of p x)))) (spot p (n + room x) (xs ++ ys))
        ≡ spot (p - cond t (size x + above xs) (above xs)) (n + (room x + rooms xs)) ys
    step true true e i f g =
        let a : p - size x - above xs ≡ p - (size x + above xs) = omega arith in
        let b : (n + room x) + rooms xs ≡ n + (room x + rooms xs) = omega arith in
        f (omega (arith, i)) ∙ (ap (λ k. spot k ((n + room x) + rooms xs) ys) a ∙ ap (λ k. spot (p - (size x + above xs)) k ys) b)
    step true false e i f g = let le : size x ≤ p = omega (arith, i) in absurd (grind (arith, e, le, leb_tells))
    step false u e i f g =
        let b : (n + room x) + rooms xs ≡ n + (room x + rooms xs) = omega arith in
        g i ∙ ap (λ k. spot (p - above xs) k ys) b

pub ruleset spot_facts = (spot-here, spot-past, rooms-append, within-first, within-last)

-- ## Pieces of runs

pub block_fits : (bs : List (List Run)) (i : ℕ) (b : List Run) → i < length bs → b ≡ get_or bs i b → rooms b + waits b ≤ rooms (flat bs) + waits (flat bs)
block_fits bs i b l e =
    let a = flat (take i bs) in
    let c = flat (drop (i + 1) bs) in
    let old : flat bs ≡ a ++ (b ++ c) =
    ap flat (sym (take-append-drop i bs)) ∙ (flat-append (take i bs) (drop i bs) ∙ ap (λ z. a ++ flat z) (drop_more bs i b l ∙ ap (λ z. z ∷ drop (i + 1) bs) (sym e))) in
    omega (arith, ap rooms old, ap waits old, rooms-append a (b ++ c), rooms-append b c, waits-append a (b ++ c), waits-append b c)

-- a piece more of the runs
pub cut-more : (bs : List (List Run)) (xs : List Run) (i n : ℕ) → flat bs ≡ take i xs → flat (bs ++ take n (drop i xs) ∷ []) ≡ take (i + n) xs
cut-more bs xs i n e =
    flat-append bs (take n (drop i xs) ∷ []) ∙ (ap (λ z. flat bs ++ z) (append-nil (take n (drop i xs))) ∙ (ap (λ z. z ++ take n (drop i xs)) e ∙ sym (take-add i n xs)))

pub part_fits : (xs : List Run) (i n : ℕ) → rooms (take n (drop i xs)) + waits (take n (drop i xs)) ≤ rooms xs + waits xs
part_fits xs i n =
    let a = take i xs in
    let y = drop i xs in
    let b = take n y in
    let c = drop n y in
    omega (
      arith,
      ap rooms (take-append-drop i xs),
      ap waits (take-append-drop i xs),
      ap rooms (take-append-drop n y),
      ap waits (take-append-drop n y),
      rooms-append a y,
      waits-append a y,
      rooms-append b c,
      waits-append b c,
    )

pub ruleset cut_facts = (cut-more, part_fits)

pub ruleset new_facts = (above-most)

pub ruleset make_facts = (made_fits, above-most)

-- the blocks from the i-th on begin with it
pub one-more : (bs : List (List Run)) (i : ℕ) (b : List Run) → i < length bs → b ≡ get_or bs i b → flat (drop i bs) ≡ b ++ flat (drop (i + 1) bs)
one-more bs i b l e = ap flat (drop_more bs i b l ∙ ap (λ z. z ∷ drop (i + 1) bs) (sym e))

-- a walk to a place of what is shown, past or into a block
pub spot-on : (bs : List (List Run)) (i p n : ℕ) (b : List Run) → i < length bs → b ≡ get_or bs i b → above b ≤ p
    → spot p n (flat (drop i bs)) ≡ spot (p - above b) (n + rooms b) (flat (drop (i + 1) bs))
spot-on bs i p n b l e h = ap (spot p n) (one-more bs i b l e) ∙ spot-past b (flat (drop (i + 1) bs)) p n h

pub spot-in : (bs : List (List Run)) (i p n : ℕ) (b : List Run) → i < length bs → b ≡ get_or bs i b → p < above b → spot p n (flat (drop i bs)) ≡ spot p n b
spot-in bs i p n b l e h = ap (spot p n) (one-more bs i b l e) ∙ spot-here b (flat (drop (i + 1) bs)) p n h

pub rooms-on : (bs : List (List Run)) (i : ℕ) (b : List Run) → i < length bs → b ≡ get_or bs i b → rooms (flat (drop i bs)) ≡ rooms b + rooms (flat (drop (i + 1) bs))
rooms-on bs i b l e = ap rooms (one-more bs i b l e) ∙ rooms-append b (flat (drop (i + 1) bs))

pub waits-on : (bs : List (List Run)) (i : ℕ) (b : List Run) → i < length bs → b ≡ get_or bs i b → waits (flat (drop i bs)) ≡ waits b + waits (flat (drop (i + 1) bs))
waits-on bs i b l e = ap waits (one-more bs i b l e) ∙ waits-append b (flat (drop (i + 1) bs))

pub within-on : (bs : List (List Run)) (i n : ℕ) (b : List Run) → i < length bs → b ≡ get_or bs i b → Within n (flat (drop i bs)) → Within n b × Within n (flat (drop (i + 1) bs))
within-on bs i n b l e w =
    let v : Within n (b ++ flat (drop (i + 1) bs)) = subst (Within n) (one-more bs i b l e) w in (within-first n b (flat (drop (i + 1) bs)) v, within-last n b (flat (drop (i + 1) bs)) v)

pub first-on : (w : Deed) (bs : List (List Run)) (i n : ℕ) (b : List Run) → i < length bs → b ≡ get_or bs i b → has_due w b ≡ false
    → first_due w n (flat (drop i bs)) ≡ first_due w (n + rooms b) (flat (drop (i + 1) bs))
first-on w bs i n b l e h = ap (first_due w n) (one-more bs i b l e) ∙ first-past w b (flat (drop (i + 1) bs)) n h

pub first-in : (w : Deed) (bs : List (List Run)) (i n : ℕ) (b : List Run) → i < length bs → b ≡ get_or bs i b → has_due w b ≡ true → first_due w n (flat (drop i bs)) ≡ first_due w n b
first-in w bs i n b l e h = ap (first_due w n) (one-more bs i b l e) ∙ first-here w b (flat (drop (i + 1) bs)) n h

-- ## The first runes that are due

above-first : (x : Run) (xs : List Run) → above (x ∷ xs) ≡ above (x ∷ []) + above xs
above-first x xs = above-append (x ∷ []) xs

pub typed-past : (m : Option ℕ) (a b : List Run) (n : ℕ) → has_due (Inserts m) a ≡ false → first_typed m n (a ++ b) ≡ first_typed m (n + above a) b
typed-past m [] b n e = let z : n ≡ n + 0 = omega arith in ap (λ k. first_typed m k b) z
typed-past m (x ∷ a) b n e = step (is_due (Inserts m) x) e (typed-past m a b (n + above (x ∷ [])))
  where
    step : (t : Bool) → t || has_due (Inserts m) a ≡ false
        → (has_due (Inserts m) a ≡ false → first_typed m (n + above (x ∷ [])) (a ++ b) ≡ first_typed m ((n + above (x ∷ [])) + above a) b)
        → cond t (Some (x, n)) (first_typed m (n + above (x ∷ [])) (a ++ b)) ≡ first_typed m (n + above (x ∷ a)) b
    step true f i = absurd cc
    step false f i =
        let z : (n + above (x ∷ [])) + above a ≡ n + above (x ∷ a) = omega (arith, above-first x a) in
        i f ∙ ap (λ k. first_typed m k b) z

typed-here : (m : Option ℕ) (a b : List Run) (n : ℕ) → has_due (Inserts m) a ≡ true → first_typed m n (a ++ b) ≡ first_typed m n a
typed-here m [] b n e = absurd cc
typed-here m (x ∷ a) b n e = step (is_due (Inserts m) x) e (typed-here m a b (n + above (x ∷ [])))
  where
    step : (t : Bool) → t || has_due (Inserts m) a ≡ true
        → (has_due (Inserts m) a ≡ true → first_typed m (n + above (x ∷ [])) (a ++ b) ≡ first_typed m (n + above (x ∷ [])) a)
        → cond t (Some (x, n)) (first_typed m (n + above (x ∷ [])) (a ++ b)) ≡ cond t (Some (x, n)) (first_typed m (n + above (x ∷ [])) a)
    step true f i = refl
    step false f i = i f

pub typed-on : (m : Option ℕ) (bs : List (List Run)) (i n : ℕ) (b : List Run) → i < length bs → b ≡ get_or bs i b → has_due (Inserts m) b ≡ false
    → first_typed m n (flat (drop i bs)) ≡ first_typed m (n + above b) (flat (drop (i + 1) bs))
typed-on m bs i n b l e h = ap (first_typed m n) (one-more bs i b l e) ∙ typed-past m b (flat (drop (i + 1) bs)) n h

pub typed-in : (m : Option ℕ) (bs : List (List Run)) (i n : ℕ) (b : List Run) → i < length bs → b ≡ get_or bs i b → has_due (Inserts m) b ≡ true
    → first_typed m n (flat (drop i bs)) ≡ first_typed m n b
typed-in m bs i n b l e h = ap (first_typed m n) (one-more bs i b l e) ∙ typed-here m b (flat (drop (i + 1) bs)) n h

pub above-on : (bs : List (List Run)) (i : ℕ) (b : List Run) → i < length bs → b ≡ get_or bs i b → above (flat (drop i bs)) ≡ above b + above (flat (drop (i + 1) bs))
above-on bs i b l e = ap above (one-more bs i b l e) ∙ above-append b (flat (drop (i + 1) bs))
