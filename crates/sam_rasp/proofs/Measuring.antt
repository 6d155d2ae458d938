-- What a rasp reads off its tallies.
use Rattle.sam_rasp.proofs.Common.{◌≡◌, refl, sym, ap, ◌∙◌, ℕ, zero, suc, ◌+◌, ◌-◌, ◌≤◌, ◌<◌, [], ◌∷◌, ◌++◌, take, drop, length, min, Option, Some, None, option_map, arith, reverse, Bool, true, false, length-take, length-reverse, take-take, drop-take, reverse-append, reverse-reverse, take-append-drop, PartialText, is_sort, prefix_len, part, inl, inr, ◌⊎◌}
use Rattle.std.specs.Prelude.{◌==◌, nat_lt, if◌then◌else◌}
use Rattle.std.proofs.lemmas.List.{take_all}
use Rattle.std.proofs.lemmas.Bool.{cases_lt}
use Rattle.sam_runes.specs.Texts.{newline}
use Rattle.sam_rasp.specs.Rasp.{sort_from, sort_before}
use Rattle.sam_rasp.specs.Tallies.{after_lines, before_lines, fitting, front_runes, line_after, line_before, measure, place_after, runes_in, taken, tally_of}
use Rattle.sam_rasp.specs.Counting.{IsWithin, minus, reached}
use Rattle.sam_rasp.specs.declared.tally.Measure.{Measure}
use Rattle.sam_rasp.specs.declared.tally.Measure.TheVariants.{Newlines}
use Rattle.sam_rasp.specs.declared.tally.Tally.{Tally}
use Rattle.sam_rasp.proofs.Tallies.{counted, front-tally, measure-append, reached-all, reached-inside, reached-within, runes-append}

-- ## Between two places

-- before q stands what is before p, and what is between
pub front-part : (r : PartialText) (p q : ℕ) → p ≤ q → take p r ++ part r p q ≡ take q r
front-part r p q o = grind (arith, (take-take p q r o), (drop-take p (q - p) r), (take-append-drop p (take q r)))

pub between : (r : PartialText) (p q : ℕ) (t u : Tally) → p < q → u ≡ tally_of (take p r) → t ≡ tally_of (take q r) → IsWithin u t × (minus t u ≡ tally_of (part r p q))
between r p q t u o e f =
    front-tally (take p r) (part r p q) t u e (f ∙ ap tally_of (sym (front-part r p q (omega (arith, o)))))

-- ## From a count to a place

-- the runes up to the first gap that take at most n
pub fit-front : (m : Measure) (r : PartialText) (n : ℕ) → fitting m (front_runes r) n ≡ min (reached m r n) (prefix_len (is_sort true) r)
fit-front m [] n = refl
fit-front m (None ∷ r) n = omega arith
fit-front m (Some c ∷ r) n = go (cases_lt n (taken m c)) (fit-front m r (n - taken m c))
  where
    go : ((n < taken m c) ⊎ (taken m c ≤ n))
        → fitting m (front_runes r) (n - taken m c) ≡ min (reached m r (n - taken m c)) (prefix_len (is_sort true) r) → fitting m (c ∷ front_runes r) n ≡ min (reached m (Some c ∷ r) n) (1 + prefix_len (is_sort true) r)
    go (inl u) more = grind (arith, u)
    go (inr u) more = grind (arith, u, more)

-- a count from the place p on
pub reached-on : (m : Measure) (r : PartialText) (p n : ℕ) → p ≤ length r → reached m r (measure m (runes_in (take p r)) + n) ≡ p + reached m (drop p r) n
reached-on m r p n l =
    let before = measure m (runes_in (take p r)) in
    let left : before + n - before ≡ n = omega arith in
    ap (λ z. reached m z (before + n)) (sym (take-append-drop p r))
    ∙ (reached-within m (take p r) (drop p r) (before + n) (omega arith)
    ∙ omega (arith, length-take p r, l, ap (reached m (drop p r)) left))

prefix-most : (r : PartialText) → prefix_len (is_sort true) r ≤ length r
prefix-most [] = omega arith
prefix-most (None ∷ r) = omega arith
prefix-most (Some c ∷ r) = omega (arith, prefix-most r)

-- what a text takes before a place and from it on
both-sides : (m : Measure) (r : PartialText) (p : ℕ) → measure m (runes_in r) ≡ measure m (runes_in (take p r)) + measure m (runes_in (drop p r))
both-sides m r p =
    ap (λ z. measure m (runes_in z)) (sym (take-append-drop p r))
    ∙ (ap (measure m) (runes-append (take p r) (drop p r)) ∙ measure-append m (runes_in (take p r)) (runes_in (drop p r)))

-- no count before a place is above that of the whole
pub before-within : (m : Measure) (r : PartialText) (p : ℕ) → measure m (runes_in (take p r)) ≤ measure m (runes_in r)
before-within m r p = omega (arith, both-sides m r p)

-- where something is taken from a place on, the place is not after the end
inside-of : (m : Measure) (r : PartialText) (p : ℕ) → measure m (runes_in (take p r)) < measure m (runes_in r) → p ≤ length r
inside-of m r p l = go (cases_lt (length r) p)
  where
    go : ((length r < p) ⊎ (p ≤ length r)) → p ≤ length r
    go (inl u) = absurd (omega (arith, l, ap (λ z. measure m (runes_in z)) (take_all p r (omega (arith, u)))))
    go (inr u) = u

-- the place that is answered where it is not after the runes from p on
pub place-found : (m : Measure) (r : PartialText) (p n before all place : ℕ) → before ≡ measure m (runes_in (take p r)) → all ≡ measure m (runes_in r)
    → n < all - before → place ≡ reached m r (before + n) → place_after r p m n ≡ min place (p + sort_from true r p)
place-found m r p n before all place e f l g =
    let on = reached-on m r p n (inside-of m r p (omega (arith, e, f, l))) in
    let here : place ≡ p + reached m (drop p r) n = g ∙ (ap (λ k. reached m r (k + n)) e ∙ on) in
    omega (arith, here, fit-front m (drop p r) n)

-- a count that holds all
pub place-last : (m : Measure) (r : PartialText) (p n before all : ℕ) → before ≡ measure m (runes_in (take p r)) → all ≡ measure m (runes_in r) → all - before ≤ n
    → place_after r p m n ≡ p + sort_from true r p
place-last m r p n before all e f l =
    let whole = reached-all m (drop p r) n (omega (arith, e, f, l, both-sides m r p)) in
    omega (arith, whole, fit-front m (drop p r) n, prefix-most (drop p r))

-- ## Lines

abbrev answer : ℕ → ℕ → Option ℕ
answer limit place = if nat_lt place limit then Some (1 + place) else None

shift : (place limit : ℕ) (o : Option ℕ) → o ≡ answer limit place → option_map suc o ≡ answer (1 + limit) (1 + place)
shift place limit o e = go (cases_lt place limit)
  where
    go : ((place < limit) ⊎ (limit ≤ place)) → option_map suc o ≡ answer (1 + limit) (1 + place)
    go (inl u) = grind (arith, e, u)
    go (inr u) = grind (arith, e, u)

lines-front : (r : PartialText) (n : ℕ) → after_lines (suc n) (front_runes r)
    ≡ (if nat_lt (reached Newlines r n) (prefix_len (is_sort true) r) then Some (1 + reached Newlines r n) else None)
lines-front [] n = refl
lines-front (None ∷ r) n = grind arith
lines-front (Some c ∷ r) n = go n (c == newline) refl (λ k. lines-front r k)
  where
    go : (n : ℕ) (b : Bool) → b ≡ (c == newline)
        → ((k : ℕ) → after_lines (suc k) (front_runes r) ≡ (if nat_lt (reached Newlines r k) (prefix_len (is_sort true) r) then Some (1 + reached Newlines r k) else None))
        → after_lines (suc n) (c ∷ front_runes r)
        ≡ (if nat_lt (reached Newlines (Some c ∷ r) n) (1 + prefix_len (is_sort true) r) then Some (1 + reached Newlines (Some c ∷ r) n) else None)
    go zero true e more = grind (arith, (sym e))
    go (suc k) true e more =
        let here : reached Newlines (Some c ∷ r) (suc k) ≡ 1 + reached Newlines r k = grind (arith, (sym e)) in
        let turn : after_lines (suc (suc k)) (c ∷ front_runes r) ≡ option_map suc (after_lines (suc k) (front_runes r)) = grind (arith, (sym e)) in
        turn ∙ (shift (reached Newlines r k) (prefix_len (is_sort true) r) (after_lines (suc k) (front_runes r)) (more k) ∙ ap (answer (1 + prefix_len (is_sort true) r)) (sym here))
    go n false e more =
        let here : reached Newlines (Some c ∷ r) n ≡ 1 + reached Newlines r n = grind (arith, (sym e)) in
        let turn : after_lines (suc n) (c ∷ front_runes r) ≡ option_map suc (after_lines (suc n) (front_runes r)) = grind (arith, (sym e)) in
        turn ∙ (shift (reached Newlines r n) (prefix_len (is_sort true) r) (after_lines (suc n) (front_runes r)) (more n) ∙ ap (answer (1 + prefix_len (is_sort true) r)) (sym here))

pub line-start : (r : PartialText) (p : ℕ) → line_after r p 0 ≡ Some p
line-start r p = grind arith

line-is : (r : PartialText) (p n place : ℕ) → 0 < n → place ≡ p + reached Newlines (drop p r) (n - 1)
    → line_after r p n ≡ (if nat_lt place (p + sort_from true r p) then Some (place + 1) else None)
line-is r p (suc n) place l e = grind (arith, e, (lines-front (drop p r) n))
line-is r p zero place l e = absurd (omega (arith, l))

-- the place that so many newlines reach
pub line-found : (r : PartialText) (p n before all place : ℕ) → before ≡ measure Newlines (runes_in (take p r)) → all ≡ measure Newlines (runes_in r)
    → 0 < n → n ≤ all - before → place ≡ reached Newlines r (before + (n - 1))
    → line_after r p n ≡ (if nat_lt place (p + sort_from true r p) then Some (place + 1) else None)
line-found r p n before all place e f s l g =
    let on = reached-on Newlines r p (n - 1) (inside-of Newlines r p (omega (arith, e, f, l, s))) in
    line-is r p n place s (g ∙ (ap (λ k. reached Newlines r (k + (n - 1))) e ∙ on))

pub line-lacks : (r : PartialText) (p n before all : ℕ) → before ≡ measure Newlines (runes_in (take p r)) → all ≡ measure Newlines (runes_in r) → 0 < n → all - before < n
    → line_after r p n ≡ None
line-lacks r p n before all e f s l =
    let whole = reached-all Newlines (drop p r) (n - 1) (omega (arith, e, f, l, both-sides Newlines r p)) in
    let long : p + sort_from true r p ≤ p + reached Newlines (drop p r) (n - 1) = omega (arith, whole, prefix-most (drop p r)) in
    line-is r p n (p + reached Newlines (drop p r) (n - 1)) s refl ∙ grind (arith, long)

-- ## Lines read backwards

measure-turned : (m : Measure) (r : PartialText) → measure m (runes_in (reverse r)) ≡ measure m (runes_in r)
measure-turned m [] = refl
measure-turned m (x ∷ r) =
    ap (λ z. measure m (runes_in z)) (reverse-append (x ∷ []) r)
    ∙ (ap (measure m) (runes-append (reverse r) (x ∷ []))
    ∙ (measure-append m (runes_in (reverse r)) (runes_in (x ∷ []))
    ∙ omega (arith, measure-turned m r, ap (measure m) (runes-append (x ∷ []) r), measure-append m (runes_in (x ∷ [])) (runes_in r))))

-- a count that does not hold all ends before the end
reached-below : (m : Measure) (r : PartialText) (n : ℕ) → n < measure m (runes_in r) → reached m r n < length r
reached-below m [] n l = absurd (omega (arith, l))
reached-below m (None ∷ r) n l = omega (arith, reached-below m r n l)
reached-below m (Some c ∷ r) n l = go (cases_lt n (taken m c)) (λ u. reached-below m r (n - taken m c) u)
  where
    go : ((n < taken m c) ⊎ (taken m c ≤ n)) → (n - taken m c < measure m (runes_in r) → reached m r (n - taken m c) < length r)
        → reached m (Some c ∷ r) n < suc (length r)
    go (inl u) more = grind (arith, u)
    go (inr u) more = grind (arith, u, (more (omega (arith, l, u))))

-- where the last newline that counts stands in the text up to there
turned-in : (c : Option ℕ) (x : PartialText) (t : ℕ) → t < measure Newlines (runes_in x) → reached Newlines (reverse (c ∷ x)) t ≡ reached Newlines (reverse x) t
turned-in c x t l =
    ap (λ z. reached Newlines z t) (reverse-append (c ∷ []) x)
    ∙ reached-inside Newlines (reverse x) (c ∷ []) t (omega (arith, l, measure-turned Newlines x))

turned-below : (x : PartialText) (t : ℕ) → t < measure Newlines (runes_in x) → reached Newlines (reverse x) t < length x
turned-below x t l = omega (arith, reached-below Newlines (reverse x) t (omega (arith, l, measure-turned Newlines x)), length-reverse x)

turned-last : (c : ℕ) (x : PartialText) → (c == newline) ≡ true → reached Newlines (reverse (Some c ∷ x)) (measure Newlines (runes_in x)) ≡ length x
turned-last c x e =
    let whole = measure-turned Newlines x in
    let n = measure Newlines (runes_in x) in
    let none : n - measure Newlines (runes_in (reverse x)) ≡ 0 = omega (arith, whole) in
    ap (λ z. reached Newlines z n) (reverse-append (Some c ∷ []) x)
    ∙ (reached-within Newlines (reverse x) (Some c ∷ []) n (omega (arith, whole))
    ∙ (ap (λ k. length (reverse x) + reached Newlines (Some c ∷ []) k) none ∙ grind (arith, e, (length-reverse x))))

abbrev Back : PartialText → ℕ → Option ℕ → Type 0
Back x n answer = before_lines n x ≡ answer

-- the first line of the text
back-first : (x : PartialText) (n : ℕ) → measure Newlines (runes_in x) ≡ n → prefix_len (is_sort true) x ≡ length x → Back x n (Some (length x))
back-first [] zero e w = refl
back-first [] (suc n) e w = absurd (omega (arith, e))
back-first (None ∷ x) n e w = absurd (omega (arith, w))
back-first (Some c ∷ x) n e w = go n (c == newline) refl e (λ k u. back-first x k u (omega (arith, w)))
  where
    go : (n : ℕ) (b : Bool) → b ≡ (c == newline) → measure Newlines (c ∷ runes_in x) ≡ n
        → ((k : ℕ) → measure Newlines (runes_in x) ≡ k → Back x k (Some (length x))) → Back (Some c ∷ x) n (Some (suc (length x)))
    go zero true u e more = absurd (grind (arith, (sym u), e))
    go (suc k) true u e more = grind (arith, (sym u), e, (more k))
    go zero false u e more = grind (arith, (sym u), e, (more zero))
    go (suc k) false u e more = grind (arith, (sym u), e, (more (suc k)))

-- fewer lines
back-fewer : (x : PartialText) (n : ℕ) → measure Newlines (runes_in x) < n → Back x n None
back-fewer x zero l = absurd (omega (arith, l))
back-fewer [] (suc n) l = refl
back-fewer (None ∷ x) (suc n) l = refl
back-fewer (Some c ∷ x) (suc n) l = go n (c == newline) refl l (λ k u. back-fewer x k u)
  where
    go : (n : ℕ) (b : Bool) → b ≡ (c == newline) → measure Newlines (c ∷ runes_in x) < suc n → ((k : ℕ) → measure Newlines (runes_in x) < k → Back x k None)
        → Back (Some c ∷ x) (suc n) None
    go n true u e more = grind (arith, (sym u), (more n (grind (arith, (sym u), e))))
    go n false u e more = grind (arith, (sym u), (more (suc n) (grind (arith, (sym u), e))))

-- a gap before the first line that counts
back-gap : (x : PartialText) (n : ℕ) → measure Newlines (runes_in x) ≤ n → prefix_len (is_sort true) x < length x → Back x n None
back-gap [] n l w = absurd (omega (arith, w))
back-gap (None ∷ x) zero l w = refl
back-gap (None ∷ x) (suc n) l w = refl
back-gap (Some c ∷ x) n l w = go n (c == newline) refl l (λ k u. back-gap x k u (omega (arith, w)))
  where
    go : (n : ℕ) (b : Bool) → b ≡ (c == newline) → measure Newlines (c ∷ runes_in x) ≤ n → ((k : ℕ) → measure Newlines (runes_in x) ≤ k → Back x k None)
        → Back (Some c ∷ x) n None
    go zero true u e more = absurd (grind (arith, (sym u), e))
    go (suc k) true u e more = grind (arith, (sym u), (more k (grind (arith, (sym u), e))))
    go zero false u e more = grind (arith, (sym u), (more zero (grind (arith, (sym u), e))))
    go (suc k) false u e more = grind (arith, (sym u), (more (suc k) (grind (arith, (sym u), e))))

-- the newline behind which the line begins, q places into the text
back-found : (x : PartialText) (n q : ℕ) → n < measure Newlines (runes_in x) → q ≡ reached Newlines (reverse x) (measure Newlines (runes_in x) - n - 1)
    → length x - prefix_len (is_sort true) x ≤ q → Back x n (Some (length x - (q + 1)))
back-found [] n q l e w = absurd (omega (arith, l))
back-found (None ∷ x) n q l e w =
    absurd (omega (arith, w, e, turned-below (None ∷ x) (measure Newlines (runes_in x) - n - 1) (omega (arith, l))))
back-found (Some c ∷ x) n q l e w = go n (c == newline) refl l e (λ k u v. back-found x k q u v (omega (arith, w)))
  where
    go : (n : ℕ) (b : Bool) → b ≡ (c == newline) → n < taken Newlines c + measure Newlines (runes_in x)
        → q ≡ reached Newlines (reverse (Some c ∷ x)) (taken Newlines c + measure Newlines (runes_in x) - n - 1)
        → ((k : ℕ) → k < measure Newlines (runes_in x) → q ≡ reached Newlines (reverse x) (measure Newlines (runes_in x) - k - 1) → Back x k (Some (length x - (q + 1))))
        → Back (Some c ∷ x) n (Some (suc (length x) - (q + 1)))
    go zero true u l e more =
        let t : taken Newlines c + measure Newlines (runes_in x) - 0 - 1 ≡ measure Newlines (runes_in x) = grind (arith, (sym u)) in
        let here : q ≡ length x = e ∙ (ap (reached Newlines (reverse (Some c ∷ x))) t ∙ turned-last c x (sym u)) in
        grind (arith, (sym u), here)
    go (suc k) true u l e more =
        let less : k < measure Newlines (runes_in x) = grind (arith, (sym u), l) in
        let t : taken Newlines c + measure Newlines (runes_in x) - suc k - 1 ≡ measure Newlines (runes_in x) - k - 1 = grind (arith, (sym u)) in
        let here : q ≡ reached Newlines (reverse x) (measure Newlines (runes_in x) - k - 1) =
        e ∙ (ap (reached Newlines (reverse (Some c ∷ x))) t ∙ turned-in (Some c) x (measure Newlines (runes_in x) - k - 1) (omega (arith, less))) in
        let below = turned-below x (measure Newlines (runes_in x) - k - 1) (omega (arith, less)) in
        let same : suc (length x - (q + 1)) ≡ suc (length x) - (q + 1) = omega (arith, here, below) in
        grind (arith, (sym u), (more k less here), same)
    go zero false u l e more =
        let less : 0 < measure Newlines (runes_in x) = grind (arith, (sym u), l) in
        let t : taken Newlines c + measure Newlines (runes_in x) - 0 - 1 ≡ measure Newlines (runes_in x) - 0 - 1 = grind (arith, (sym u)) in
        let here : q ≡ reached Newlines (reverse x) (measure Newlines (runes_in x) - 0 - 1) =
        e ∙ (ap (reached Newlines (reverse (Some c ∷ x))) t ∙ turned-in (Some c) x (measure Newlines (runes_in x) - 0 - 1) (omega (arith, less))) in
        let below = turned-below x (measure Newlines (runes_in x) - 0 - 1) (omega (arith, less)) in
        let same : suc (length x - (q + 1)) ≡ suc (length x) - (q + 1) = omega (arith, here, below) in
        grind (arith, (sym u), (more zero less here), same)
    go (suc k) false u l e more =
        let less : (suc k) < measure Newlines (runes_in x) = grind (arith, (sym u), l) in
        let t : taken Newlines c + measure Newlines (runes_in x) - suc k - 1 ≡ measure Newlines (runes_in x) - (suc k) - 1 = grind (arith, (sym u)) in
        let here : q ≡ reached Newlines (reverse x) (measure Newlines (runes_in x) - (suc k) - 1) =
        e ∙ (ap (reached Newlines (reverse (Some c ∷ x))) t ∙ turned-in (Some c) x (measure Newlines (runes_in x) - (suc k) - 1) (omega (arith, less))) in
        let below = turned-below x (measure Newlines (runes_in x) - (suc k) - 1) (omega (arith, less)) in
        let same : suc (length x - (q + 1)) ≡ suc (length x) - (q + 1) = omega (arith, here, below) in
        grind (arith, (sym u), (more (suc k) less here), same)

-- the newline is behind a gap
back-hidden : (x : PartialText) (n q : ℕ) → n < measure Newlines (runes_in x) → q ≡ reached Newlines (reverse x) (measure Newlines (runes_in x) - n - 1)
    → q < length x - prefix_len (is_sort true) x → Back x n None
back-hidden [] n q l e w = absurd (omega (arith, l))
back-hidden (None ∷ x) zero q l e w = refl
back-hidden (None ∷ x) (suc n) q l e w = refl
back-hidden (Some c ∷ x) n q l e w = go n (c == newline) refl l e (λ k u v. back-hidden x k q u v (omega (arith, w)))
  where
    go : (n : ℕ) (b : Bool) → b ≡ (c == newline) → n < taken Newlines c + measure Newlines (runes_in x)
        → q ≡ reached Newlines (reverse (Some c ∷ x)) (taken Newlines c + measure Newlines (runes_in x) - n - 1)
        → ((k : ℕ) → k < measure Newlines (runes_in x) → q ≡ reached Newlines (reverse x) (measure Newlines (runes_in x) - k - 1) → Back x k None)
        → Back (Some c ∷ x) n None
    go zero true u l e more =
        let t : taken Newlines c + measure Newlines (runes_in x) - 0 - 1 ≡ measure Newlines (runes_in x) = grind (arith, (sym u)) in
        let here : q ≡ length x = e ∙ (ap (reached Newlines (reverse (Some c ∷ x))) t ∙ turned-last c x (sym u)) in
        absurd (omega (arith, here, w))
    go (suc k) true u l e more =
        let less : k < measure Newlines (runes_in x) = grind (arith, (sym u), l) in
        let t : taken Newlines c + measure Newlines (runes_in x) - suc k - 1 ≡ measure Newlines (runes_in x) - k - 1 = grind (arith, (sym u)) in
        let here : q ≡ reached Newlines (reverse x) (measure Newlines (runes_in x) - k - 1) =
        e ∙ (ap (reached Newlines (reverse (Some c ∷ x))) t ∙ turned-in (Some c) x (measure Newlines (runes_in x) - k - 1) (omega (arith, less))) in
        grind (arith, (sym u), (more k less here))
    go zero false u l e more =
        let less : 0 < measure Newlines (runes_in x) = grind (arith, (sym u), l) in
        let t : taken Newlines c + measure Newlines (runes_in x) - 0 - 1 ≡ measure Newlines (runes_in x) - 0 - 1 = grind (arith, (sym u)) in
        let here : q ≡ reached Newlines (reverse x) (measure Newlines (runes_in x) - 0 - 1) =
        e ∙ (ap (reached Newlines (reverse (Some c ∷ x))) t ∙ turned-in (Some c) x (measure Newlines (runes_in x) - 0 - 1) (omega (arith, less))) in
        grind (arith, (sym u), (more zero less here))
    go (suc k) false u l e more =
        let less : (suc k) < measure Newlines (runes_in x) = grind (arith, (sym u), l) in
        let t : taken Newlines c + measure Newlines (runes_in x) - suc k - 1 ≡ measure Newlines (runes_in x) - (suc k) - 1 = grind (arith, (sym u)) in
        let here : q ≡ reached Newlines (reverse x) (measure Newlines (runes_in x) - (suc k) - 1) =
        e ∙ (ap (reached Newlines (reverse (Some c ∷ x))) t ∙ turned-in (Some c) x (measure Newlines (runes_in x) - (suc k) - 1) (omega (arith, less))) in
        grind (arith, (sym u), (more (suc k) less here))

-- ## The line before

-- the members before a place, read backwards
module _ (r : PartialText) (p n : ℕ) (within : p ≤ length r) where
  long : length (reverse (take p r)) ≡ p
  long = omega (arith, length-reverse (take p r), length-take p r, within)

  lines : measure Newlines (runes_in (reverse (take p r))) ≡ measure Newlines (runes_in (take p r))
  lines = measure-turned Newlines (take p r)

  asked : (answer : Option ℕ) → Back (reverse (take p r)) n answer → line_before r p n ≡ option_map (λ k. p - k) answer
  asked answer e = grind (arith, within, e)

  pub before-first : measure Newlines (runes_in (take p r)) ≡ n → p - sort_before true r p ≡ 0 → sort_before true r p ≤ p → line_before r p n ≡ Some 0
  before-first e f g =
      let all : prefix_len (is_sort true) (reverse (take p r)) ≡ length (reverse (take p r)) = omega (arith, long, f, g) in
      let none : p - length (reverse (take p r)) ≡ 0 = omega (arith, long) in
      asked (Some (length (reverse (take p r)))) (back-first (reverse (take p r)) n (lines ∙ e) all) ∙ ap Some none

  pub before-fewer : measure Newlines (runes_in (take p r)) < n → line_before r p n ≡ None
  before-fewer l = asked None (back-fewer (reverse (take p r)) n (omega (arith, lines, l)))

  pub before-gap : measure Newlines (runes_in (take p r)) ≤ n → 0 < p - sort_before true r p → line_before r p n ≡ None
  before-gap l w = asked None (back-gap (reverse (take p r)) n (omega (arith, lines, l)) (omega (arith, long, w)))

  turned : (place : ℕ) → n < measure Newlines (runes_in (take p r)) → place ≡ reached Newlines r (measure Newlines (runes_in (take p r)) - n - 1)
      → (place ≡ reached Newlines (reverse (reverse (take p r))) (measure Newlines (runes_in (reverse (take p r))) - n - 1)) × (place < p)
  turned place l e =
      let t = measure Newlines (runes_in (take p r)) - n - 1 in
      let front : reached Newlines r t ≡ reached Newlines (take p r) t =
      ap (λ z. reached Newlines z t) (sym (take-append-drop p r)) ∙ reached-inside Newlines (take p r) (drop p r) t (omega (arith, l)) in
      let count : t ≡ measure Newlines (runes_in (reverse (take p r))) - n - 1 = ap (λ k. k - n - 1) (sym lines) in (
        e ∙ (front ∙ (ap (λ z. reached Newlines z t) (sym (reverse-reverse (take p r))) ∙ ap (reached Newlines (reverse (reverse (take p r)))) count)),
        omega (arith, e, front, reached-below Newlines (take p r) t (omega (arith, l)), length-take p r, within),
      )

  pub before-found : (place : ℕ) → n < measure Newlines (runes_in (take p r)) → place ≡ reached Newlines r (measure Newlines (runes_in (take p r)) - n - 1)
      → p - sort_before true r p ≤ place → line_before r p n ≡ Some (place + 1)
  before-found place l e w =
      let there = turned place l e in
      let back : p - (length (reverse (take p r)) - (place + 1)) ≡ place + 1 = omega (arith, long, there.1) in
      asked (Some (length (reverse (take p r)) - (place + 1)))
      (back-found (reverse (take p r)) n place (omega (arith, lines, l)) there.0 (omega (arith, long, w))) ∙ ap Some back

  pub before-hidden : (place : ℕ) → n < measure Newlines (runes_in (take p r)) → place ≡ reached Newlines r (measure Newlines (runes_in (take p r)) - n - 1)
      → place < p - sort_before true r p → line_before r p n ≡ None
  before-hidden place l e w =
      asked None (back-hidden (reverse (take p r)) n place (omega (arith, lines, l)) (turned place l e).0 (omega (arith, long, w)))

pub before-past : (r : PartialText) (p n : ℕ) → length r < p → line_before r p n ≡ None
before-past r p n l = grind (arith, l)

-- what `tally` rests on
pub ruleset tally_facts = (between)

-- what `place_after` rests on
pub ruleset place_facts = (place-found, place-last, counted, before-within)

-- what `line_after` rests on
pub ruleset line_facts = (line-start, line-found, line-lacks, before-within)

-- what `line_before` rests on
pub ruleset before_facts = (before-first, before-fewer, before-gap, before-found, before-hidden, before-past)
