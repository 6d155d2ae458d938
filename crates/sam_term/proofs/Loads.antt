-- The gaps of a view in stretches, and the requests for them.
use Rattle.sam_term.proofs.Common.{◌≡◌, refl, sym, ap, ◌∙◌, ℕ, suc, zero, ◌+◌, ◌-◌, ◌<◌, ◌≤◌, true, List, [], ◌∷◌, length, Option, Some, None, option_map, arith, length-take, length-drop, slot-put_same, hole_within, PartialText, all_wanted, awaiting, front_of, requests_for, stretches, is_open, PlainTerminal, all_composed, composed, sends, unchanged, window_at, shown_from, event_outcome, made_by_load, first_event, free_first, Load, Trequest}
use Rattle.std.proofs.lemmas.List.{length-map}
use Rattle.sam_rasp.specs.Rasp.{first_gaps, gaps_in_front, range_from}
use Rattle.sam_runes.specs.Texts.{part}
use Rattle.sam_term.proofs.Acts.{passes, test_at}
use Rattle.sam_term.proofs.Composes.{composed_by, put-put, window-put_same}
use Rattle.sam_term.proofs.Edits.{later, make_facts}
use Rattle.sam_term.proofs.SlotSteps.{put_again}

-- ## Where the first stretch stands

gaps-within : (r : PartialText) → gaps_in_front r ≤ length r
gaps-within (None ∷ r) = omega (arith, gaps-within r)
gaps-within r = grind arith

-- a stretch by its start and length, if there is one: not empty, and within n members
abbrev pub InFront : ℕ → Option (ℕ × ℕ) → Type 0
InFront n None = Unit {0}
InFront n (Some h) = (0 < h.1) × (h.0 + h.1 ≤ n)

further : (n : ℕ) (o : Option (ℕ × ℕ)) → InFront n o → InFront (suc n) (option_map (λ h. (1 + h.0, h.1)) o)
further n o i = grind arith

pub first-in : (r : PartialText) → InFront (length r) (first_gaps r)
first-in [] = tt
first-in (None ∷ r) = (omega arith, omega (arith, gaps-within r))
first-in (Some c ∷ r) = further (length r) (first_gaps r) (first-in r)

-- the first stretch of which a message can ask lies from p to q, and is not empty
pub stretch-in : (r : PartialText) (p q : ℕ) (s : ℕ × ℕ) → p ≤ q → q ≤ length r → Some s ≡ option_map front_of (hole_within r p q)
    → (p ≤ s.0) × (0 < s.1) × (s.0 + s.1 ≤ q)
stretch-in r p q s o l e = go (first_gaps (part r p q)) (first-in (part r p q)) e
  where
    size : length (part r p q) ≡ q - p
    size = grind (arith, length-take, length-drop)

    go : (h : Option (ℕ × ℕ)) → InFront (length (part r p q)) h → Some s ≡ option_map front_of (option_map (range_from p) h)
        → (p ≤ s.0) × (0 < s.1) × (s.0 + s.1 ≤ q)
    go h i e = grind (arith, size)

-- ## One stretch after another

pub stretches-some : (r : PartialText) (p q n : ℕ) (s : ℕ × ℕ) → 0 < n → Some s ≡ option_map front_of (hole_within r p q)
    → stretches r p q n ≡ s ∷ stretches r (s.0 + s.1) q (n - 1)
unfolding stretches
stretches-some r p q zero s l e = elim l [ ]
stretches-some r p q (suc n) s l e = grind arith

pub stretches-none : (r : PartialText) (p q n : ℕ) → None ≡ option_map front_of (hole_within r p q) → stretches r p q n ≡ []
unfolding stretches
stretches-none r p q zero e = refl
stretches-none r p q (suc n) e = grind arith

pub stretches-over : (r : PartialText) (p q n : ℕ) → n ≡ 0 → stretches r p q n ≡ []
unfolding stretches
stretches-over r p q n e = grind arith

-- i of n stretches are done, and this is the next
pub stretches-next : (r : PartialText) (p q n i : ℕ) (s : ℕ × ℕ) → i < n → Some s ≡ option_map front_of (hole_within r p q)
    → stretches r p q (n - i) ≡ s ∷ stretches r (s.0 + s.1) q (n - (i + 1))
stretches-next r p q n i s l e =
    let less : n - i - 1 ≡ n - (i + 1) = omega arith in
    stretches-some r p q (n - i) s (omega (arith, l)) e ∙ ap (λ k. s ∷ stretches r (s.0 + s.1) q k) less

-- there are no more than n
pub stretches_few : (r : PartialText) (p q n : ℕ) → length (stretches r p q n) ≤ n
unfolding stretches
stretches_few r p q zero = omega arith
stretches_few r p q (suc n) = go (option_map front_of (hole_within r p q)) (λ place. stretches_few r place q n)
  where
    go : (s : Option (ℕ × ℕ)) → ((place : ℕ) → length (stretches r place q n) ≤ n) → length (elim s as (λ x. List (ℕ × ℕ)) [ None ↦ [] | Some s ↦ s ∷ stretches r (s.0 + s.1) q n ]) ≤ suc n
    go None behind = omega arith
    go (Some s) behind = omega (arith, behind (s.0 + s.1))

-- what walking over the stretches rests on
pub ruleset stretch_facts = (stretch-in, stretches-next, stretches-none)

-- ## The requests of a view

-- they go by the files alone
pub wanted_by : (t u : PlainTerminal) (f : ℕ) → u.files ≡ t.files → all_wanted u f ≡ all_wanted t f
unfolding all_wanted
wanted_by t u f e = grind arith

awaiting-one : (t : PlainTerminal) (f p n : ℕ) → composed t (Trequest f p n) ≡ awaiting t f 1
awaiting-one t f p n = grind (arith, (composed_by t (Trequest f p n)))

awaiting-more : (t : PlainTerminal) (f n : ℕ) → awaiting (awaiting t f 1) f n ≡ awaiting t f (suc n)
awaiting-more t f n = grind (arith, put-put, window-put_same)

awaiting-none : (t : PlainTerminal) (f : ℕ) → is_open t f ≡ true → awaiting t f 0 ≡ t
awaiting-none t f o = grind (arith, (put_again t.files f o))

awaiting-open : (t : PlainTerminal) (f n : ℕ) → is_open (awaiting t f n) f ≡ true
awaiting-open t f n = grind (arith, slot-put_same)

asked : (t : PlainTerminal) (f : ℕ) (xs : List (ℕ × ℕ)) → is_open t f ≡ true → all_composed t (requests_for f xs) ≡ awaiting t f (length xs)
asked t f [] o = sym (awaiting-none t f o)
asked t f (x ∷ xs) o =
    ap (λ u. all_composed u (requests_for f xs)) (awaiting-one t f x.0 x.1)
    ∙ (asked (awaiting t f 1) f xs (awaiting-open t f 1) ∙ awaiting-more t f (length xs))

-- composing all of them at once
pub asked_all : (t : PlainTerminal) (f : ℕ) → is_open t f ≡ true → all_composed t (all_wanted t f) ≡ awaiting t f (length (all_wanted t f))
unfolding all_wanted
asked_all t f o = grind (arith, length-map, asked)

-- ## The event

pub loads_within : (t : PlainTerminal) (f p n : ℕ) → free_first t ≡ None → first_event t.held ≡ Load f p n → p ≤ length (window_at t f).rasp
unfolding test_at
loads_within t f p n e s = grind (arith, (passes t (Load f p n) 7 e s))

pub made_load_none : (t : PlainTerminal) (f p n : ℕ) → length (all_wanted (shown_from t f p n) f) ≡ 0 → event_outcome (later t) (Load f p n) ≡ (shown_from (later t) f p n, [])
unfolding made_by_load
made_load_none t f p n e = grind (arith, (wanted_by (shown_from t f p n) (shown_from (later t) f p n) f refl))

pub made_load_some : (t : PlainTerminal) (f p n : ℕ) → 0 < length (all_wanted (shown_from t f p n) f)
    → event_outcome (later t) (Load f p n) ≡ sends (shown_from (later t) f p n) unchanged (all_wanted (shown_from t f p n) f)
unfolding made_by_load
made_load_some t f p n l = grind (arith, (wanted_by (shown_from t f p n) (shown_from (later t) f p n) f refl))

-- what `make_load` rests on
pub ruleset load_facts = (make_facts, loads_within, made_load_none, made_load_some, wanted_by)

-- what counting the requests rests on
pub ruleset count_facts = (length-map, window-put_same)
