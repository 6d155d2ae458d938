-- Places of the text that a request comes to, past whole blocks.
use Rattle.std.proofs.Common.{◌≡◌, refl, ap, ◌∙◌, ℕ, ◌+◌, ◌-◌, ◌≤◌, ◌<◌, ◌⊎◌, inl, inr, min, max, Bool, true, false, not, cond, ◌&&◌, ◌||◌, nat_le, nat_lt, nat_eq, List, [], ◌∷◌, ◌++◌, length, drop, get_or, Option, Some, None, arith, append_assoc, append-nil}
use Rattle.std.proofs.lemmas.Bool.Decides.{leb_tells, nat_tests}
use Rattle.sam_pending.specs.Blocks.{flat}
use Rattle.sam_pending.specs.Runs.{above, before_place, gone_in, has_due, held_of, is_due, lost_in, newest_of, newest_run, passed, place_in, room, rooms, run_stands, size}
use Rattle.sam_pending.specs.declared.run.Deed.TheVariants.{Inserts}
use Rattle.sam_pending.specs.declared.run.Run.{Run}
use Rattle.sam_pending.specs.declared.run.Run.TheVariants.{Held, Typed}
use Rattle.sam_pending.proofs.BlockLaws.{one-more}
use Rattle.sam_pending.proofs.DropLaws.{above_one}
use Rattle.sam_pending.proofs.LayerLaws.{above-most}

place-same : (g n m : ℕ) (xs : List Run) → n ≡ m → place_in g n xs ≡ place_in g m xs
place-same g n m xs e = ap (λ k. place_in g k xs) e

pub place-append : (g n : ℕ) (a b : List Run) → place_in g n (a ++ b) ≡ place_in g n a + place_in g (n - rooms a) b
place-append g n [] b = let e : n ≡ n - 0 = omega arith in omega (arith, place-same g n (n - 0) b e)
place-append g n (x ∷ a) b =
    omega (arith, place-append g (n - room x) a b, place-same g (n - room x - rooms a) (n - (room x + rooms a)) b (omega arith))

pub place_on : (g n : ℕ) (bs : List (List Run)) (i : ℕ) (b : List Run) → i < length bs → b ≡ get_or bs i b
    → place_in g n (flat (drop i bs)) ≡ place_in g n b + place_in g (n - rooms b) (flat (drop (i + 1) bs))
place_on g n bs i b l e = ap (place_in g n) (one-more bs i b l e) ∙ place-append g n b (flat (drop (i + 1) bs))

-- ## Before the place, and behind it

place-begins : (g : ℕ) (x : Run) → before_place g 0 x ≡ 0
place-begins g (Held k d) = step (run_stands g (Held k d))
  where
    step : (t : Bool) → cond t (min k 0) 0 ≡ 0
    step true = grind arith
    step false = refl
place-begins g (Typed s b d) = step (run_stands g (Typed s b d))
  where
    step : (t : Bool) → cond (t && nat_lt 0 0) s.count 0 ≡ 0
    step true = refl
    step false = refl

pub place_none : (g : ℕ) (xs : List Run) → place_in g 0 xs ≡ 0
place_none g [] = refl
place_none g (x ∷ xs) = omega (arith, place-begins g x, place_none g xs, place-same g (0 - room x) 0 xs (omega arith))

place-one : (g n : ℕ) (x : Run) → (size x ≡ 0) ⊎ (newest_run x ≤ g) → room x < n → before_place g n x ≡ above (x ∷ [])
place-one g n (Held k None) o l = grind (arith, l)
place-one g n (Held k (Some h)) o l = step (nat_le h g) refl o
  where
    step : (t : Bool) → nat_le h g ≡ t → (k ≡ 0) ⊎ (h ≤ g) → cond (not t) (min k n) 0 ≡ 0
    step true e p = refl
    step false e (inl z) = grind (arith, z)
    step false e (inr p) = absurd (grind (arith, leb_tells, e, p))
place-one g n (Typed s b None) o l = step (nat_le b g) (nat_lt 0 n) refl refl o
  where
    step : (t u : Bool) → nat_le b g ≡ t → nat_lt 0 n ≡ u → (s.count ≡ 0) ⊎ (max b 0 ≤ g) → cond ((t && true) && u) s.count 0 ≡ s.count + 0
    step true true e f p = omega arith
    step true false e f p = absurd (grind (arith, nat_tests, f, l))
    step false u e f (inl z) = omega (arith, z)
    step false u e f (inr p) = absurd (grind (arith, leb_tells, e, p))
place-one g n (Typed s b (Some h)) o l = step (nat_le b g) (nat_le h g) (nat_lt 0 n) refl o
  where
    empty : (t : Bool) → s.count ≡ 0 → cond t s.count 0 ≡ 0
    empty true e = e
    empty false e = refl

    step : (t u w : Bool) → nat_le h g ≡ u → (s.count ≡ 0) ⊎ (max b h ≤ g) → cond ((t && not u) && w) s.count 0 ≡ 0
    step true true w e p = refl
    step false u w e p = refl
    step true false w e (inl z) = empty w z
    step true false w e (inr p) = absurd (grind (arith, leb_tells, e, p))

-- where no group is newer, what stands there is what is shown
pub place_shown : (g n : ℕ) (xs : List Run) → newest_of xs ≤ g → rooms xs < n → place_in g n xs ≡ above xs
place_shown g n [] o l = refl
place_shown g n (x ∷ xs) o l =
    let new = step (nat_eq (size x) 0) refl o in
    omega (arith, place-one g n x new.0 (omega (arith, l)), place_shown g (n - room x) xs new.1 (omega (arith, l)), above_one x xs)
  where
    step : (t : Bool) → nat_eq (size x) 0 ≡ t → cond t (newest_of xs) (max (newest_run x) (newest_of xs)) ≤ g
        → ((size x ≡ 0) ⊎ (newest_run x ≤ g)) × (newest_of xs ≤ g)
    step true e p = (inl (grind (arith, nat_tests, e)), p)
    step false e p = (inr (grind (arith, p)), grind (arith, p))

-- ## What goes before a place

gone-same : (g n k y m j z : ℕ) (xs : List Run) → n ≡ m → k ≡ j → y ≡ z → gone_in g n k y xs ≡ gone_in g m j z xs
gone-same g n k y m j z xs e f h = ap (λ i. gone_in g i k y xs) e ∙ (ap (λ i. gone_in g m i y xs) f ∙ ap (λ i. gone_in g m j i xs) h)

pub passed-most : (g y : ℕ) (x : Run) → passed g y x ≤ y
passed-most g y x = step (run_stands g x)
  where
    step : (t : Bool) → cond t (min (size x) y) 0 ≤ y
    step true = grind arith
    step false = omega arith

pub gone_none : (g n y : ℕ) (xs : List Run) → gone_in g n 0 y xs ≡ 0
gone_none g n y [] = refl
gone_none g n y (x ∷ xs) =
    let first : min 0 (held_of (passed g y x) x - n) ≡ 0 = grind arith in
    omega (arith, first, gone_none g (n - room x) (y - passed g y x) xs, gone-same g (n - room x) (0 - (room x - n)) (y - passed g y x) (n - room x) 0 (y - passed g y x) xs refl (omega arith) refl)

pub gone_before : (g n k : ℕ) (xs : List Run) → gone_in g n k 0 xs ≡ 0
gone_before g n k [] = refl
gone_before g n k (x ∷ xs) =
    let none : passed g 0 x ≡ 0 = omega (arith, passed-most g 0 x) in
    let first : min k (held_of (passed g 0 x) x - n) ≡ 0 = ap (λ j. min k (held_of j x - n)) none ∙ empty x in
    omega (arith, first, gone_before g (n - room x) (k - (room x - n)) xs, gone-same g (n - room x) (k - (room x - n)) (0 - passed g 0 x) (n - room x) (k - (room x - n)) 0 xs refl refl (omega (arith, none)))
  where
    empty : (y : Run) → min k (held_of 0 y - n) ≡ 0
    empty (Held j d) = grind arith
    empty (Typed s b d) = grind arith

pub passed-one : (g y : ℕ) (x : Run) → (size x ≡ 0) ⊎ (newest_run x ≤ g) → above (x ∷ []) ≤ y → passed g y x ≡ above (x ∷ [])
passed-one g y (Held k None) o l = grind (arith, l)
passed-one g y (Held k (Some h)) o l = step (nat_le h g) refl o
  where
    step : (t : Bool) → nat_le h g ≡ t → (k ≡ 0) ⊎ (h ≤ g) → cond (not t) (min k y) 0 ≡ 0
    step true e p = refl
    step false e (inl z) = grind (arith, z)
    step false e (inr p) = absurd (grind (arith, leb_tells, e, p))
passed-one g y (Typed s b None) o l = step (nat_le b g) refl o
  where
    step : (t : Bool) → nat_le b g ≡ t → (s.count ≡ 0) ⊎ (max b 0 ≤ g) → cond (t && true) (min s.count y) 0 ≡ s.count + 0
    step true e p = grind (arith, l)
    step false e (inl z) = omega (arith, z)
    step false e (inr p) = absurd (grind (arith, leb_tells, e, p))
passed-one g y (Typed s b (Some h)) o l = step (nat_le b g) (nat_le h g) refl o
  where
    step : (t u : Bool) → nat_le h g ≡ u → (s.count ≡ 0) ⊎ (max b h ≤ g) → cond (t && not u) (min s.count y) 0 ≡ 0
    step false u e p = refl
    step true true e p = refl
    step true false e (inl z) = grind (arith, z)
    step true false e (inr p) = absurd (grind (arith, leb_tells, e, p))

held-most : (m : ℕ) (x : Run) → m ≤ size x → held_of m x ≤ room x
held-most m (Held k d) l = l
held-most m (Typed s b d) l = omega arith

passed-size : (g y : ℕ) (x : Run) → passed g y x ≤ size x
passed-size g y x = step (run_stands g x)
  where
    step : (t : Bool) → cond t (min (size x) y) 0 ≤ size x
    step true = grind arith
    step false = omega arith

-- past runs before the members that go, where no group is newer
pub gone-past : (g n k y : ℕ) (a b : List Run) → newest_of a ≤ g → rooms a ≤ n → above a ≤ y → gone_in g n k y (a ++ b) ≡ gone_in g (n - rooms a) k (y - above a) b
gone-past g n k y [] b o l h = gone-same g n k y (n - 0) k (y - 0) b (omega arith) refl (omega arith)
gone-past g n k y (x ∷ a) b o l h =
    let new = step (nat_eq (size x) 0) refl o in
    let one = above_one x a in
    let is : passed g y x ≡ above (x ∷ []) = passed-one g y x new.0 (omega (arith, one, h)) in
    let none : held_of (passed g y x) x - n ≡ 0 = omega (arith, held-most (passed g y x) x (passed-size g y x), l) in
    let first : min k (held_of (passed g y x) x - n) ≡ 0 = ap (min k) none ∙ zero-least k in
    omega (
      arith,
      first,
      gone-same g (n - room x) (k - (room x - n)) (y - passed g y x) (n - room x) k (y - above (x ∷ [])) (a ++ b) refl (omega (arith, l)) (omega (arith, is)),
      gone-past g (n - room x) k (y - above (x ∷ [])) a b new.1 (omega (arith, l)) (omega (arith, one, h)),
      gone-same g (n - room x - rooms a) k (y - above (x ∷ []) - above a) (n - (room x + rooms a)) k (y - above (x ∷ a)) b (omega arith) refl (omega (arith, one)),
    )
  where
    zero-least : (j : ℕ) → min j 0 ≡ 0
    zero-least j = grind arith

    step : (t : Bool) → nat_eq (size x) 0 ≡ t → cond t (newest_of a) (max (newest_run x) (newest_of a)) ≤ g
        → ((size x ≡ 0) ⊎ (newest_run x ≤ g)) × (newest_of a ≤ g)
    step true e p = (inl (grind (arith, nat_tests, e)), p)
    step false e p = (inr (grind (arith, p)), grind (arith, p))

pub gone_on : (g n k y : ℕ) (bs : List (List Run)) (i : ℕ) (b : List Run) → i < length bs → b ≡ get_or bs i b → newest_of b ≤ g → rooms b ≤ n → above b ≤ y
    → gone_in g n k y (flat (drop i bs)) ≡ gone_in g (n - rooms b) k (y - above b) (flat (drop (i + 1) bs))
gone_on g n k y bs i b l e o p q = ap (gone_in g n k y) (one-more bs i b l e) ∙ gone-past g n k y b (flat (drop (i + 1) bs)) o p q

-- no more go than stand before the place
pub gone_most : (g n k y : ℕ) (xs : List Run) → gone_in g n k y xs ≤ y
gone_most g n k y [] = omega arith
gone_most g n k y (x ∷ xs) =
    let first : min k (held_of (passed g y x) x - n) ≤ passed g y x = below k (held_of (passed g y x) x - n) (passed g y x) (omega (arith, held-all (passed g y x) x)) in
    omega (arith, first, passed-most g y x, gone_most g (n - room x) (k - (room x - n)) (y - passed g y x) xs)
  where
    below : (j h m : ℕ) → h ≤ m → min j h ≤ m
    below j h m l = grind (arith, l)

    held-all : (m : ℕ) (z : Run) → held_of m z ≤ m
    held-all m (Held j d) = omega arith
    held-all m (Typed s b d) = omega arith

pub lost_most : (m : Option ℕ) (g y : ℕ) (xs : List Run) → lost_in m g y xs ≤ y
lost_most m g y [] = omega arith
lost_most m g y (x ∷ xs) = step (is_due (Inserts m) x) (lost_most m g (y - passed g y x) xs)
  where
    step : (t : Bool) → lost_in m g (y - passed g y x) xs ≤ y - passed g y x → cond t (passed g y x) (lost_in m g (y - passed g y x) xs) ≤ y
    step true h = passed-most g y x
    step false h = omega (arith, h)

pub lost_before : (m : Option ℕ) (g : ℕ) (xs : List Run) → lost_in m g 0 xs ≡ 0
lost_before m g xs = omega (arith, lost_most m g 0 xs)

-- past runs of which none are due, where no group is newer
pub lost-past : (m : Option ℕ) (g y : ℕ) (a b : List Run) → has_due (Inserts m) a ≡ false → newest_of a ≤ g → above a ≤ y
    → lost_in m g y (a ++ b) ≡ lost_in m g (y - above a) b
lost-past m g y [] b e o h = ap (λ k. lost_in m g k b) (omega arith)
lost-past m g y (x ∷ a) b e o h = step (is_due (Inserts m) x) e (λ f p l. lost-past m g (y - passed g y x) a b f p l)
  where
    new : (t : Bool) → nat_eq (size x) 0 ≡ t → cond t (newest_of a) (max (newest_run x) (newest_of a)) ≤ g
        → ((size x ≡ 0) ⊎ (newest_run x ≤ g)) × (newest_of a ≤ g)
    new true f p = (inl (grind (arith, nat_tests, f)), p)
    new false f p = (inr (grind (arith, p)), grind (arith, p))

    step : (t : Bool) → t || has_due (Inserts m) a ≡ false
        → (has_due (Inserts m) a ≡ false → newest_of a ≤ g → above a ≤ y - passed g y x → lost_in m g (y - passed g y x) (a ++ b) ≡ lost_in m g (y - passed g y x - above a) b)
        → cond t (passed g y x) (lost_in m g (y - passed g y x) (a ++ b)) ≡ lost_in m g (y - above (x ∷ a)) b
    step true f next = absurd cc
    step false f next =
        let older = new (nat_eq (size x) 0) refl o in
        let one = above_one x a in
        let is : passed g y x ≡ above (x ∷ []) = passed-one g y x older.0 (omega (arith, one, h)) in
        next f older.1 (omega (arith, one, is, h)) ∙ ap (λ k. lost_in m g k b) (omega (arith, one, is))

pub lost_on : (m : Option ℕ) (g y : ℕ) (bs : List (List Run)) (i : ℕ) (b : List Run) → i < length bs → b ≡ get_or bs i b → has_due (Inserts m) b ≡ false
    → newest_of b ≤ g → above b ≤ y → lost_in m g y (flat (drop i bs)) ≡ lost_in m g (y - above b) (flat (drop (i + 1) bs))
lost_on m g y bs i b l e o p q = ap (lost_in m g y) (one-more bs i b l e) ∙ lost-past m g y b (flat (drop (i + 1) bs)) o p q

pub ruleset place_facts = (place_none, place_shown, above-most)

pub ruleset gone_facts = (one-more, append_assoc, append-nil, gone_none, gone_before)

pub ruleset lost_facts = (one-more, append_assoc, append-nil, lost_before)
