-- Laws of cells.
use Rattle.std.proofs.Common.{◌≡◌, refl, sym, ap, ◌∙◌, ℕ, zero, suc, ◌+◌, ◌-◌, ◌≤◌, Bool, true, false, not, cond, List, [], ◌∷◌, ◌++◌, map, length, take, drop, reverse, Option, Some, None, is_none, arith, length-append, append_assoc, append-nil, drop-drop, length-drop}
use Rattle.std.specs.List.{filter}
use Rattle.std.proofs.lemmas.List.{map-append}
use Rattle.std.proofs.lemmas.List.Elements.{filter-append}
use mathlib.Core.List.{reverse-cons}
use Rattle.sam_pending.specs.Cells.{Cell, PartialText, Change, put, all_put, members, in_rasp, is_shown, rasp_of, shown_of, waiting_of, resting, part_by, take_by, drop_by, put_by, shown_place, typed, dying, replaced, inserted, removed, filled, loaded, gone_from}

pub members-append : (is : Cell → Bool) (a b : List Cell) → members is (a ++ b) ≡ members is a ++ members is b
members-append is a b = ap (map (λ c. c.member)) (filter-append is a b) ∙ map-append (λ c. c.member) (filter is a) (filter is b)

pub members-three : (is : Cell → Bool) (a b c : List Cell) → members is (a ++ b ++ c) ≡ members is a ++ members is b ++ members is c
members-three is a b c = members-append is (a ++ b) c ∙ ap (λ z. z ++ members is c) (members-append is a b)

pub members-take : (is : Cell → Bool) (n : ℕ) (cs : List Cell) → members is (take_by is n cs) ≡ take n (members is cs)
members-take is zero cs = refl
members-take is (suc n) [] = refl
members-take is (suc n) (c ∷ cs) = step (is c) (members-take is (cond (is c) n (suc n)) cs)
  where
    step : (b : Bool) → members is (take_by is (cond b n (suc n)) cs) ≡ take (cond b n (suc n)) (members is cs)
        → map (λ d. d.member) (cond b (c ∷ filter is (take_by is (cond b n (suc n)) cs)) (filter is (take_by is (cond b n (suc n)) cs)))
        ≡ take (suc n) (map (λ d. d.member) (cond b (c ∷ filter is cs) (filter is cs)))
    step true e = ap (λ z. c.member ∷ z) e
    step false e = e

pub members-drop : (is : Cell → Bool) (n : ℕ) (cs : List Cell) → members is (drop_by is n cs) ≡ drop n (members is cs)
members-drop is zero cs = refl
members-drop is (suc n) [] = refl
members-drop is (suc n) (c ∷ cs) = step (is c) (members-drop is (cond (is c) n (suc n)) cs)
  where
    step : (b : Bool) → members is (drop_by is (cond b n (suc n)) cs) ≡ drop (cond b n (suc n)) (members is cs)
        → members is (drop_by is (cond b n (suc n)) cs) ≡ drop (suc n) (map (λ d. d.member) (cond b (c ∷ filter is cs) (filter is cs)))
    step true e = e
    step false e = e

pub take-drop-by : (is : Cell → Bool) (n : ℕ) (cs : List Cell) → take_by is n cs ++ drop_by is n cs ≡ cs
take-drop-by is zero cs = refl
take-drop-by is (suc n) [] = refl
take-drop-by is (suc n) (c ∷ cs) = ap (λ z. c ∷ z) (take-drop-by is (cond (is c) n (suc n)) cs)

-- the same place by two steps
drop-place : {X : Type 0} (p q : ℕ) (t : List X) → p ≤ q → drop (q - p) (drop p t) ≡ drop q t
drop-place p q t l = drop-drop (q - p) p t ∙ ap (λ k. drop k t) (omega arith)

-- others put in place of what counts between two places
pub members-put : (is : Cell → Bool) (p q : ℕ) (new cs : List Cell) → p ≤ q → members is (put_by is p q new cs) ≡ take p (members is cs) ++ members is new ++ drop q (members is cs)
members-put is p q new cs l =
    let front = members-take is p cs in
    let back = members-drop is (q - p) (drop_by is p cs) ∙ (ap (drop (q - p)) (members-drop is p cs) ∙ drop-place p q (members is cs) l) in
    members-three is (take_by is p cs) new (drop_by is (q - p) (drop_by is p cs))
    ∙ (ap (λ z. z ++ members is new ++ members is (drop_by is (q - p) (drop_by is p cs))) front
    ∙ ap (λ z. take p (members is cs) ++ members is new ++ z) back)

-- the cells before a range, in it and behind it
pub parted : (is : Cell → Bool) (p q : ℕ) (cs : List Cell) → take_by is p cs ++ part_by is p q cs ++ drop_by is (q - p) (drop_by is p cs) ≡ cs
parted is p q cs =
    append_assoc (take_by is p cs) (part_by is p q cs) (drop_by is (q - p) (drop_by is p cs))
    ∙ (ap (λ z. take_by is p cs ++ z) (take-drop-by is (q - p) (drop_by is p cs)) ∙ take-drop-by is p cs)

-- the same for what passes another test
pub members-parted : (is other : Cell → Bool) (p q : ℕ) (cs : List Cell)
    → members other cs ≡ members other (take_by is p cs) ++ members other (part_by is p q cs) ++ members other (drop_by is (q - p) (drop_by is p cs))
members-parted is other p q cs =
    ap (members other) (sym (parted is p q cs)) ∙ members-three other (take_by is p cs) (part_by is p q cs) (drop_by is (q - p) (drop_by is p cs))

pub take-front : {X : Type 0} (a b : List X) → take (length a) (a ++ b) ≡ a
take-front [] b = refl
take-front (x ∷ a) b = ap (λ z. x ∷ z) (take-front a b)

drop-front : {X : Type 0} (a b : List X) → drop (length a) (a ++ b) ≡ b
drop-front [] b = refl
drop-front (x ∷ a) b = drop-front a b

-- a front of another length, by steps
pub take_by-add : (is : Cell → Bool) (n k : ℕ) (cs : List Cell) → take_by is n cs ++ take_by is k (drop_by is n cs) ≡ take_by is (n + k) cs
take_by-add is zero k cs = grind arith
take_by-add is (suc n) zero [] = grind arith
take_by-add is (suc n) (suc k) [] = grind arith
take_by-add is (suc n) k (c ∷ cs) =
    ap (λ z. c ∷ z) (take_by-add is (cond (is c) n (suc n)) k cs ∙ ap (λ m. take_by is m cs) (left (is c)))
    ∙ ap (λ m. take_by is m (c ∷ cs)) (more n k)
  where
    left : (b : Bool) → cond b n (suc n) + k ≡ cond b (n + k) (suc (n + k))
    left true = refl
    left false = omega arith

    more : (n k : ℕ) → suc (n + k) ≡ suc n + k
    more n k = omega arith

-- what another test makes of a change: a splice in its own places
pub other-put : (is other : Cell → Bool) (p q : ℕ) (new cs : List Cell)
    → members other (put_by is p q new cs)
    ≡ take (length (members other (take_by is p cs))) (members other cs) ++ members other new
    ++ drop (length (members other (take_by is p cs ++ part_by is p q cs))) (members other cs)
other-put is other p q new cs =
    let a = take_by is p cs in
    let b = part_by is p q cs in
    let c = drop_by is (q - p) (drop_by is p cs) in
    let whole = members-parted is other p q cs in
    let front : take (length (members other a)) (members other cs) ≡ members other a =
    ap (take (length (members other a))) (whole ∙ append_assoc (members other a) (members other b) (members other c)) ∙ take-front (members other a) (members other b ++ members other c) in
    let both = members-append other a b in
    let back : drop (length (members other (a ++ b))) (members other cs) ≡ members other c =
    ap (λ z. drop (length z) (members other cs)) both ∙ (ap (drop (length (members other a ++ members other b))) whole ∙ drop-front (members other a ++ members other b) (members other c)) in
    members-three other a new c ∙ (ap (λ z. z ++ members other new ++ members other c) (sym front)
    ∙ ap (λ z. take (length (members other a)) (members other cs) ++ members other new ++ z) (sym back))

shown-typed : (g : ℕ) (s : List ℕ) → shown_of (map (typed g) s) ≡ map Some s
shown-typed g [] = refl
shown-typed g (c ∷ s) = ap (λ z. Some c ∷ z) (shown-typed g s)

none-shown : (g : ℕ) (cs : List Cell) → shown_of (dying g cs) ≡ []
none-shown g [] = refl
none-shown g (c ∷ cs) = grind (arith, (none-shown g cs))

pub shown_replaced : (cs : List Cell) (g p q : ℕ) (s : List ℕ) → p ≤ q
    → shown_of (replaced g p q s cs) ≡ take p (shown_of cs) ++ map Some s ++ drop q (shown_of cs)
shown_replaced cs g p q s l =
    members-put is_shown p q (map (typed g) s ++ dying g (part_by is_shown p q cs)) cs l
    ∙ ap (λ z. take p (shown_of cs) ++ z ++ drop q (shown_of cs))
    (members-append is_shown (map (typed g) s) (dying g (part_by is_shown p q cs))
    ∙ (ap (λ z. shown_of (map (typed g) s) ++ z) (none-shown g (part_by is_shown p q cs)) ∙ (append-nil (shown_of (map (typed g) s)) ∙ shown-typed g s)))

pub rasp_resting : (r : PartialText) → rasp_of (resting r) ≡ r
rasp_resting [] = refl
rasp_resting (m ∷ r) = ap (λ z. m ∷ z) (rasp_resting r)

pub shown_resting : (r : PartialText) → shown_of (resting r) ≡ r
shown_resting [] = refl
shown_resting (m ∷ r) = ap (λ z. m ∷ z) (shown_resting r)

-- ## Waiting cells

filter-three : (t : Cell → Bool) (a b c : List Cell) → filter t (a ++ b ++ c) ≡ filter t a ++ filter t b ++ filter t c
filter-three t a b c = filter-append t (a ++ b) c ∙ ap (λ z. z ++ filter t c) (filter-append t a b)

waiting-parted : (is : Cell → Bool) (p q : ℕ) (cs : List Cell)
    → waiting_of (take_by is p cs) ++ waiting_of (part_by is p q cs) ++ waiting_of (drop_by is (q - p) (drop_by is p cs)) ≡ waiting_of cs
waiting-parted is p q cs = sym (filter-three (λ c. not (in_rasp c)) (take_by is p cs) (part_by is p q cs) (drop_by is (q - p) (drop_by is p cs))) ∙ ap waiting_of (parted is p q cs)

-- others in place of those between two places, among which as many wait
waiting-put : (is : Cell → Bool) (p q : ℕ) (new cs : List Cell) → waiting_of new ≡ waiting_of (part_by is p q cs) → waiting_of (put_by is p q new cs) ≡ waiting_of cs
waiting-put is p q new cs e =
    let a = take_by is p cs in
    let c = drop_by is (q - p) (drop_by is p cs) in
    filter-three (λ c. not (in_rasp c)) a new c ∙ (ap (λ z. waiting_of a ++ z ++ waiting_of c) e ∙ waiting-parted is p q cs)

none-waits : (r : PartialText) → waiting_of (resting r) ≡ []
none-waits [] = refl
none-waits (m ∷ r) = none-waits r

part-empty : (is : Cell → Bool) (p : ℕ) (cs : List Cell) → part_by is p p cs ≡ []
part-empty is p cs = let e : p - p ≡ 0 = omega arith in ap (λ k. take_by is k (drop_by is p cs)) e

waiting-twice : (cs : List Cell) → waiting_of (waiting_of cs) ≡ waiting_of cs
waiting-twice [] = refl
waiting-twice (c ∷ cs) = grind (arith, (waiting-twice cs))

waiting-not-rasp : (cs : List Cell) → rasp_of (waiting_of cs) ≡ []
waiting-not-rasp [] = refl
waiting-not-rasp (c ∷ cs) = grind (arith, (waiting-not-rasp cs))

pub waiting_inserted : (cs : List Cell) (p : ℕ) (new : PartialText) → waiting_of (inserted p new cs) ≡ waiting_of cs
waiting_inserted cs p new = waiting-put in_rasp p p (resting new) cs (none-waits new ∙ ap waiting_of (sym (part-empty in_rasp p cs)))

pub waiting_removed : (cs : List Cell) (p q : ℕ) → waiting_of (removed p q cs) ≡ waiting_of cs
waiting_removed cs p q = waiting-put in_rasp p q (waiting_of (part_by in_rasp p q cs)) cs (waiting-twice (part_by in_rasp p q cs))

-- ## The host's changes

pub rasp_inserted : (cs : List Cell) (p : ℕ) (new : PartialText) → rasp_of (inserted p new cs) ≡ take p (rasp_of cs) ++ new ++ drop p (rasp_of cs)
rasp_inserted cs p new =
    members-put in_rasp p p (resting new) cs (omega arith) ∙ ap (λ z. take p (rasp_of cs) ++ z ++ drop p (rasp_of cs)) (rasp_resting new)

pub rasp_removed : (cs : List Cell) (p q : ℕ) → p ≤ q → rasp_of (removed p q cs) ≡ take p (rasp_of cs) ++ drop q (rasp_of cs)
rasp_removed cs p q l =
    members-put in_rasp p q (waiting_of (part_by in_rasp p q cs)) cs l
    ∙ ap (λ z. z ++ drop q (rasp_of cs)) (ap (λ z. take p (rasp_of cs) ++ z) (waiting-not-rasp (part_by in_rasp p q cs)) ∙ append-nil (take p (rasp_of cs)))

pub shown_inserted : (cs : List Cell) (p : ℕ) (new : PartialText)
    → shown_of (inserted p new cs) ≡ take (shown_place p cs) (shown_of cs) ++ new ++ drop (shown_place p cs) (shown_of cs)
shown_inserted cs p new =
    other-put in_rasp is_shown p p (resting new) cs
    ∙ (ap (λ z. take (shown_place p cs) (shown_of cs) ++ z ++ drop (length (shown_of (take_by in_rasp p cs ++ part_by in_rasp p p cs))) (shown_of cs)) (shown_resting new)
    ∙ ap (λ z. take (shown_place p cs) (shown_of cs) ++ new ++ drop (length (shown_of z)) (shown_of cs))
    (ap (λ z. take_by in_rasp p cs ++ z) (part-empty in_rasp p cs) ∙ append-nil (take_by in_rasp p cs)))

-- the cells up to the second of two places
front-two : (is : Cell → Bool) (p q : ℕ) (cs : List Cell) → p ≤ q → take_by is p cs ++ part_by is p q cs ≡ take_by is q cs
front-two is p q cs l = take_by-add is p (q - p) cs ∙ ap (λ k. take_by is k cs) (omega arith)

pub shown_removed : (cs : List Cell) (p q : ℕ) → p ≤ q → shown_of (removed p q cs)
    ≡ take (shown_place p cs) (shown_of cs) ++ shown_of (waiting_of (part_by in_rasp p q cs)) ++ drop (shown_place q cs) (shown_of cs)
shown_removed cs p q l =
    other-put in_rasp is_shown p q (waiting_of (part_by in_rasp p q cs)) cs
    ∙ ap (λ z. take (shown_place p cs) (shown_of cs) ++ shown_of (waiting_of (part_by in_rasp p q cs)) ++ drop (length (shown_of z)) (shown_of cs)) (front-two in_rasp p q cs l)

-- ## Changes, the last of a list first

all_put-push : (t : PartialText) (es : List Change) (e : Change) → all_put t (es ++ e ∷ []) ≡ put (all_put t es) e
all_put-push t [] e = refl
all_put-push t (x ∷ es) e = all_put-push (put t x) es e

-- the first of ascending changes is made last
pub put-last : (t u : PartialText) (e : Change) (es : List Change) → all_put t (reverse es) ≡ u → all_put t (reverse (e ∷ es)) ≡ put u e
put-last t u e es h = ap (all_put t) (reverse-cons e es) ∙ (all_put-push t (reverse es) e ∙ ap (λ z. put z e) h)

-- a member taken out behind the first n
take-one : (r x : PartialText) (m : Option ℕ) (n : ℕ) → length r ≡ n → put (r ++ m ∷ [] ++ x) (record { p = n; q = n + 1; new = [] }) ≡ r ++ x
take-one r x m n e =
    let f : take n (r ++ m ∷ [] ++ x) ≡ r = ap (take n) (append_assoc r (m ∷ []) x) ∙ (ap (λ k. take k (r ++ m ∷ x)) (sym e) ∙ take-front r (m ∷ x)) in
    let l : length (r ++ m ∷ []) ≡ n + 1 = omega (arith, length-append r (m ∷ []), e) in
    let b : drop (n + 1) (r ++ m ∷ [] ++ x) ≡ x = ap (λ k. drop k (r ++ m ∷ [] ++ x)) (sym l) ∙ drop-front (r ++ m ∷ []) x in
    ap (λ z. z ++ [] ++ drop (n + 1) (r ++ m ∷ [] ++ x)) f ∙ (ap (λ z. r ++ [] ++ z) b ∙ ap (λ z. z ++ x) (append-nil r))

-- ## A change of the user's leaves the rasp as it is

rasp-typed : (g : ℕ) (s : List ℕ) → rasp_of (map (typed g) s) ≡ []
rasp-typed g [] = refl
rasp-typed g (c ∷ s) = rasp-typed g s

rasp-dying : (g : ℕ) (cs : List Cell) → rasp_of (dying g cs) ≡ rasp_of cs
rasp-dying g [] = refl
rasp-dying g (c ∷ cs) = grind (arith, (rasp-dying g cs))

pub rasp_replaced : (cs : List Cell) (g p q : ℕ) (s : List ℕ) → p ≤ q → rasp_of (replaced g p q s cs) ≡ rasp_of cs
rasp_replaced cs g p q s l =
    let a = take_by is_shown p cs in
    let b = part_by is_shown p q cs in
    let c = drop_by is_shown (q - p) (drop_by is_shown p cs) in
    members-three in_rasp a (map (typed g) s ++ dying g b) c
    ∙ (ap (λ z. rasp_of a ++ z ++ rasp_of c)
    (members-append in_rasp (map (typed g) s) (dying g b)
    ∙ (ap (λ z. z ++ rasp_of (dying g b)) (rasp-typed g s) ∙ rasp-dying g b))
    ∙ sym (members-parted is_shown in_rasp p q cs))

-- ## What leaves the rasp, as removals in what is shown

-- behind the members r, of which there are n, and before the members z
gone-steps : (cs : List Cell) (r z : PartialText) (n : ℕ) → length r ≡ n
    → all_put (r ++ (shown_of cs ++ z)) (reverse (gone_from n cs)) ≡ r ++ (shown_of (waiting_of cs) ++ z)
gone-steps [] r z n e = refl
gone-steps (c ∷ cs) r z n e =
    step c.born c.died (gone-steps cs r z n e)
    (ap (λ y. all_put y (reverse (gone_from (n + 1) cs))) (sym (append_assoc r (c.member ∷ []) (shown_of cs ++ z)))
    ∙ gone-steps cs (r ++ c.member ∷ []) z (n + 1) (omega (arith, length-append r (c.member ∷ []), e)))
  where
    step : (b d : Option ℕ)
        → all_put (r ++ (shown_of cs ++ z)) (reverse (gone_from n cs)) ≡ r ++ (shown_of (waiting_of cs) ++ z)
        → all_put (r ++ c.member ∷ (shown_of cs ++ z)) (reverse (gone_from (n + 1) cs)) ≡ r ++ c.member ∷ [] ++ (shown_of (waiting_of cs) ++ z)
        → all_put (r ++ (map (λ x. x.member) (cond (is_none d) (c ∷ filter is_shown cs) (filter is_shown cs)) ++ z))
        (reverse (cond (is_none d)
        (cond (is_none b) (record { p = n; q = n + 1; new = [] } ∷ gone_from (n + 1) cs) (gone_from (n + 1) cs))
        (gone_from n cs)))
        ≡ r ++ (shown_of (cond (not (is_none b)) (record { member = c.member; born = b; died = d } ∷ waiting_of cs) (waiting_of cs)) ++ z)
    step None None same next =
        put-last (r ++ c.member ∷ (shown_of cs ++ z)) (r ++ c.member ∷ [] ++ (shown_of (waiting_of cs) ++ z)) (record { p = n; q = n + 1; new = [] }) (gone_from (n + 1) cs) next
        ∙ take-one r (shown_of (waiting_of cs) ++ z) c.member n e
    step (Some g) None same next = next ∙ append_assoc r (c.member ∷ []) (shown_of (waiting_of cs) ++ z)
    step None (Some h) same next = same
    step (Some g) (Some h) same next = same

pub shown_goes : (cs : List Cell) (p q : ℕ) → p ≤ q
    → all_put (shown_of cs) (reverse (gone_from (shown_place p cs) (part_by in_rasp p q cs))) ≡ shown_of (removed p q cs)
shown_goes cs p q l =
    let a = take_by in_rasp p cs in
    let b = part_by in_rasp p q cs in
    let z = drop_by in_rasp (q - p) (drop_by in_rasp p cs) in
    ap (λ y. all_put y (reverse (gone_from (shown_place p cs) b))) (members-parted in_rasp is_shown p q cs ∙ append_assoc (shown_of a) (shown_of b) (shown_of z))
    ∙ (gone-steps b (shown_of a) (shown_of z) (shown_place p cs) refl
    ∙ (sym (append_assoc (shown_of a) (shown_of (waiting_of b)) (shown_of z)) ∙ sym (members-three is_shown a (waiting_of b) z)))

-- ## What is loaded

pub rasp-loaded : (s : List ℕ) (cs : List Cell) → length s ≤ length (rasp_of cs) → rasp_of (loaded s cs) ≡ map Some s ++ drop (length s) (rasp_of cs)
rasp-loaded [] cs l = refl
rasp-loaded (x ∷ s) [] l = absurd (omega (arith, l))
rasp-loaded (x ∷ s) (c ∷ cs) l = step c.born (λ w. rasp-loaded s cs w) (λ w. rasp-loaded (x ∷ s) cs w) l
  where
    step : (b : Option ℕ)
        → (length s ≤ length (rasp_of cs) → rasp_of (loaded s cs) ≡ map Some s ++ drop (length s) (rasp_of cs))
        → (length (x ∷ s) ≤ length (rasp_of cs) → rasp_of (loaded (x ∷ s) cs) ≡ map Some (x ∷ s) ++ drop (length (x ∷ s)) (rasp_of cs))
        → length (x ∷ s) ≤ length (map (λ y. y.member) (cond (is_none b) (c ∷ filter in_rasp cs) (filter in_rasp cs)))
        → rasp_of (cond (is_none b) (record { member = Some x; born = b; died = c.died } ∷ loaded s cs) (record { member = c.member; born = b; died = c.died } ∷ loaded (x ∷ s) cs))
        ≡ map Some (x ∷ s) ++ drop (length (x ∷ s)) (map (λ y. y.member) (cond (is_none b) (c ∷ filter in_rasp cs) (filter in_rasp cs)))
    step None same next l = ap (λ z. Some x ∷ z) (same (omega (arith, l)))
    step (Some g) same next l = next l

pub waiting-loaded : (s : List ℕ) (cs : List Cell) → waiting_of (loaded s cs) ≡ waiting_of cs
waiting-loaded [] cs = refl
waiting-loaded (x ∷ s) [] = refl
waiting-loaded (x ∷ s) (c ∷ cs) = step c.born (waiting-loaded s cs) (waiting-loaded (x ∷ s) cs)
  where
    step : (b : Option ℕ) → waiting_of (loaded s cs) ≡ waiting_of cs → waiting_of (loaded (x ∷ s) cs) ≡ waiting_of cs
        → waiting_of (cond (is_none b) (record { member = Some x; born = b; died = c.died } ∷ loaded s cs) (record { member = c.member; born = b; died = c.died } ∷ loaded (x ∷ s) cs))
        ≡ cond (not (is_none b)) (record { member = c.member; born = b; died = c.died } ∷ waiting_of cs) (waiting_of cs)
    step None same next = same
    step (Some g) same next = ap (λ z. record { member = c.member; born = Some g; died = c.died } ∷ z) next

pub length-loaded : (s : List ℕ) (cs : List Cell) → length (shown_of (loaded s cs)) ≡ length (shown_of cs)
length-loaded [] cs = refl
length-loaded (x ∷ s) [] = refl
length-loaded (x ∷ s) (c ∷ cs) = step c.born c.died (length-loaded s cs) (length-loaded (x ∷ s) cs)
  where
    step : (b d : Option ℕ) → length (shown_of (loaded s cs)) ≡ length (shown_of cs) → length (shown_of (loaded (x ∷ s) cs)) ≡ length (shown_of cs)
        → length (shown_of (cond (is_none b) (record { member = Some x; born = b; died = d } ∷ loaded s cs) (record { member = c.member; born = b; died = d } ∷ loaded (x ∷ s) cs)))
        ≡ length (map (λ y. y.member) (cond (is_none d) (c ∷ filter is_shown cs) (filter is_shown cs)))
    step None None same next = ap suc same
    step None (Some h) same next = same
    step (Some g) None same next = ap suc next
    step (Some g) (Some h) same next = next

pub rasp_filled : (cs : List Cell) (p : ℕ) (s : List ℕ) → p + length s ≤ length (rasp_of cs)
    → rasp_of (filled p s cs) ≡ take p (rasp_of cs) ++ map Some s ++ drop (p + length s) (rasp_of cs)
rasp_filled cs p s l =
    let there : length s ≤ length (rasp_of (drop_by in_rasp p cs)) = omega (arith, ap length (members-drop in_rasp p cs), length-drop p (rasp_of cs), l) in
    let last : drop (length s) (rasp_of (drop_by in_rasp p cs)) ≡ drop (p + length s) (rasp_of cs) =
    ap (drop (length s)) (members-drop in_rasp p cs) ∙ (drop-drop (length s) p (rasp_of cs) ∙ ap (λ k. drop k (rasp_of cs)) (omega arith)) in
    members-append in_rasp (take_by in_rasp p cs) (loaded s (drop_by in_rasp p cs))
    ∙ (ap (λ z. z ++ rasp_of (loaded s (drop_by in_rasp p cs))) (members-take in_rasp p cs)
    ∙ (ap (λ z. take p (rasp_of cs) ++ z) (rasp-loaded s (drop_by in_rasp p cs) there ∙ ap (λ z. map Some s ++ z) last)
    ∙ sym (append_assoc (take p (rasp_of cs)) (map Some s) (drop (p + length s) (rasp_of cs)))))

pub waiting_filled : (cs : List Cell) (p : ℕ) (s : List ℕ) → waiting_of (filled p s cs) ≡ waiting_of cs
waiting_filled cs p s =
    filter-append (λ c. not (in_rasp c)) (take_by in_rasp p cs) (loaded s (drop_by in_rasp p cs))
    ∙ (ap (λ z. waiting_of (take_by in_rasp p cs) ++ z) (waiting-loaded s (drop_by in_rasp p cs))
    ∙ (sym (filter-append (λ c. not (in_rasp c)) (take_by in_rasp p cs) (drop_by in_rasp p cs)) ∙ ap waiting_of (take-drop-by in_rasp p cs)))

pub shown_filled : (cs : List Cell) (p : ℕ) (s : List ℕ)
    → (length (shown_of (filled p s cs)) ≡ length (shown_of cs)) × (take (shown_place p cs) (shown_of (filled p s cs)) ≡ take (shown_place p cs) (shown_of cs))
shown_filled cs p s =
    let a = take_by in_rasp p cs in
    let b = drop_by in_rasp p cs in
    let new = members-append is_shown a (loaded s b) in
    let old : shown_of cs ≡ shown_of a ++ shown_of b = ap shown_of (sym (take-drop-by in_rasp p cs)) ∙ members-append is_shown a b in (
      omega (arith, ap length new, ap length old, length-append (shown_of a) (shown_of (loaded s b)), length-append (shown_of a) (shown_of b), length-loaded s b),
      ap (take (shown_place p cs)) new ∙ (take-front (shown_of a) (shown_of (loaded s b)) ∙ (sym (take-front (shown_of a) (shown_of b)) ∙ ap (take (shown_place p cs)) (sym old))),
    )
