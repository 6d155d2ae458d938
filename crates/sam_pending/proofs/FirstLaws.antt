-- The first run at which an edit is due, and the block in which it is.
use Rattle.std.proofs.Common.{◌≡◌, refl, sym, ap, ◌∙◌, ℕ, suc, ◌+◌, ◌≤◌, ◌<◌, Bool, true, false, cond, ◌||◌, List, [], ◌∷◌, ◌++◌, length, take, drop, get_or, set, Option, None, arith, append-nil, drop-drop, length-take-le, take-append-drop}
use Rattle.std.proofs.lemmas.List.{drop_more, set_split, take_all, take_more}
use Rattle.sam_pending.specs.Blocks.{flat, first_in, made_in, taken_in}
use Rattle.sam_pending.specs.Runs.{has_due, is_due, made_first, made_run, taken_first}
use Rattle.sam_pending.specs.declared.run.Run.{Run}
use Rattle.sam_pending.specs.declared.run.Run.TheVariants.{Held}
use Rattle.sam_pending.specs.declared.run.Deed.{Deed}
use Rattle.sam_pending.specs.declared.run.Deed.TheVariants.{Inserts}
use Rattle.sam_pending.proofs.FlatLaws.{flat-append}
use Rattle.sam_pending.proofs.RunLaws.{drop-front, take-front}

-- ## Runs

either-none : (s t : Bool) → s || t ≡ false → (s ≡ false) × (t ≡ false)
either-none true t e = absurd cc
either-none false t e = (refl, e)

pub has_due-append : (w : Deed) (a b : List Run) → has_due w (a ++ b) ≡ has_due w a || has_due w b
has_due-append w [] b = refl
has_due-append w (x ∷ a) b = ap (λ z. is_due w x || z) (has_due-append w a b) ∙ order (is_due w x) (has_due w a) (has_due w b)
  where
    order : (s t u : Bool) → s || (t || u) ≡ (s || t) || u
    order true t u = refl
    order false t u = refl

made-past : (w : Deed) (a b : List Run) → has_due w a ≡ false → made_first w (a ++ b) ≡ a ++ made_first w b
made-past w [] b e = refl
made-past w (x ∷ a) b e = step (is_due w x) e (made-past w a b)
  where
    step : (t : Bool) → t || has_due w a ≡ false → (has_due w a ≡ false → made_first w (a ++ b) ≡ a ++ made_first w b)
        → cond t (made_run x ∷ (a ++ b)) (x ∷ made_first w (a ++ b)) ≡ x ∷ (a ++ made_first w b)
    step true f i = absurd cc
    step false f i = ap (λ z. x ∷ z) (i f)

made-here : (w : Deed) (a b : List Run) → has_due w a ≡ true → made_first w (a ++ b) ≡ made_first w a ++ b
made-here w [] b e = absurd cc
made-here w (x ∷ a) b e = step (is_due w x) e (made-here w a b)
  where
    step : (t : Bool) → t || has_due w a ≡ true → (has_due w a ≡ true → made_first w (a ++ b) ≡ made_first w a ++ b)
        → cond t (made_run x ∷ (a ++ b)) (x ∷ made_first w (a ++ b)) ≡ cond t (made_run x ∷ a) (x ∷ made_first w a) ++ b
    step true f i = refl
    step false f i = ap (λ z. x ∷ z) (i f)

taken-past : (m : Option ℕ) (a b : List Run) → has_due (Inserts m) a ≡ false → taken_first m (a ++ b) ≡ a ++ taken_first m b
taken-past m [] b e = refl
taken-past m (x ∷ a) b e = step (is_due (Inserts m) x) e (taken-past m a b)
  where
    step : (t : Bool) → t || has_due (Inserts m) a ≡ false → (has_due (Inserts m) a ≡ false → taken_first m (a ++ b) ≡ a ++ taken_first m b)
        → cond t (Held 0 None ∷ (a ++ b)) (x ∷ taken_first m (a ++ b)) ≡ x ∷ (a ++ taken_first m b)
    step true f i = absurd cc
    step false f i = ap (λ z. x ∷ z) (i f)

taken-here : (m : Option ℕ) (a b : List Run) → has_due (Inserts m) a ≡ true → taken_first m (a ++ b) ≡ taken_first m a ++ b
taken-here m [] b e = absurd cc
taken-here m (x ∷ a) b e = step (is_due (Inserts m) x) e (taken-here m a b)
  where
    step : (t : Bool) → t || has_due (Inserts m) a ≡ true → (has_due (Inserts m) a ≡ true → taken_first m (a ++ b) ≡ taken_first m a ++ b)
        → cond t (Held 0 None ∷ (a ++ b)) (x ∷ taken_first m (a ++ b)) ≡ cond t (Held 0 None ∷ a) (x ∷ taken_first m a) ++ b
    step true f i = refl
    step false f i = ap (λ z. x ∷ z) (i f)

-- ## Blocks

-- what is made of runs changes the first one at which the edit is due
record ChangesFirst (w : Deed) (made : List Run → List Run) : Type 0 where
  pub none : made [] ≡ []
  pub past : (a b : List Run) → has_due w a ≡ false → made (a ++ b) ≡ a ++ made b
  pub here : (a b : List Run) → has_due w a ≡ true → made (a ++ b) ≡ made a ++ b

flat-first : (w : Deed) (made : List Run → List Run) (bs : List (List Run)) → ChangesFirst w made → flat (first_in made w bs) ≡ made (flat bs)
flat-first w made [] h = sym h.none
flat-first w made (b ∷ bs) h = step (has_due w b) refl (flat-first w made bs h)
  where
    step : (t : Bool) → has_due w b ≡ t → flat (first_in made w bs) ≡ made (flat bs)
        → flat (cond t (made b ∷ bs) (b ∷ first_in made w bs)) ≡ made (b ++ flat bs)
    step true e i = sym (h.here b (flat bs) e)
    step false e i = ap (λ z. b ++ z) i ∙ sym (h.past b (flat bs) e)

pub flat_made : (w : Deed) (bs : List (List Run)) → flat (made_in w bs) ≡ made_first w (flat bs)
flat_made w bs = flat-first w (made_first w) bs (record { none = refl; past = made-past w; here = made-here w })

pub flat_taken : (m : Option ℕ) (bs : List (List Run)) → flat (taken_in m bs) ≡ taken_first m (flat bs)
flat_taken m bs = flat-first (Inserts m) (taken_first m) bs (record { none = refl; past = taken-past m; here = taken-here m })

first-past : (made : List Run → List Run) (w : Deed) (a b : List (List Run)) → has_due w (flat a) ≡ false → first_in made w (a ++ b) ≡ a ++ first_in made w b
first-past made w [] b e = refl
first-past made w (x ∷ a) b e =
    let both = either-none (has_due w x) (has_due w (flat a)) (sym (has_due-append w x (flat a)) ∙ e) in
    ap (λ t. cond t (made x ∷ (a ++ b)) (x ∷ first_in made w (a ++ b))) both.0 ∙ ap (λ z. x ∷ z) (first-past made w a b both.1)

head-or : List Run → List (List Run) → List Run
head-or d [] = d
head-or d (b ∷ bs) = b

-- two readings of one place
same-at : (bs : List (List Run)) (i : ℕ) (x y : List Run) → i < length bs → x ≡ get_or bs i x → y ≡ get_or bs i y → x ≡ y
unfolding head-or
same-at bs i x y l e f = e ∙ (ap (head-or []) (sym (drop_more bs i x l) ∙ drop_more bs i y l) ∙ sym f)

-- it is due in the block at place i, read twice, and in none before
pub set-read : (made : List Run → List Run) (w : Deed) (bs : List (List Run)) (i : ℕ) (b x : List Run) → i < length bs → b ≡ get_or bs i b → x ≡ get_or bs i x
    → has_due w (flat (take i bs)) ≡ false → has_due w x ≡ true → set bs i (made b) ≡ first_in made w bs
set-read made w bs i b x l e f before due =
    let is : has_due w b ≡ true = ap (has_due w) (same-at bs i b x l e f) ∙ due in
    let next : suc i ≡ i + 1 = omega arith in
    let old : bs ≡ take i bs ++ (b ∷ drop (i + 1) bs) =
    sym (take-append-drop i bs) ∙ ap (λ z. take i bs ++ z) (drop_more bs i b l ∙ ap (λ z. z ∷ drop (i + 1) bs) (sym e)) in
    set_split bs i (made b) l
    ∙ (ap (λ k. take i bs ++ made b ∷ drop k bs) next
    ∙ (ap (λ t. take i bs ++ cond t (made b ∷ drop (i + 1) bs) (b ∷ first_in made w (drop (i + 1) bs))) (sym is)
    ∙ (sym (first-past made w (take i bs) (b ∷ drop (i + 1) bs) before) ∙ ap (first_in made w) (sym old))))

-- one block more holds nothing that is due
pub none-more : (w : Deed) (bs : List (List Run)) (i : ℕ) (b : List Run) → i < length bs → b ≡ get_or bs i b → has_due w (flat (take i bs)) ≡ false → has_due w b ≡ false
    → has_due w (flat (take (i + 1) bs)) ≡ false
none-more w bs i b l e before off =
    ap (λ z. has_due w (flat z)) (take_more bs i b l ∙ ap (λ z. take i bs ++ z ∷ []) (sym e))
    ∙ (ap (has_due w) (flat-append (take i bs) (b ∷ []) ∙ ap (λ z. flat (take i bs) ++ z) (append-nil b))
    ∙ (has_due-append w (flat (take i bs)) b ∙ (ap (λ z. z || has_due w b) before ∙ off)))

pub none-made : (made : List Run → List Run) (w : Deed) (bs : List (List Run)) (i : ℕ) → length bs ≤ i → has_due w (flat (take i bs)) ≡ false → bs ≡ first_in made w bs
none-made made w bs i l e =
    let off : has_due w (flat bs) ≡ false = ap (λ z. has_due w (flat z)) (sym (take_all i bs l)) ∙ e in
    sym (append-nil bs) ∙ (sym (first-past made w bs [] off) ∙ ap (first_in made w) (append-nil bs))

-- the blocks before one that is set, and those behind it
pub take_set : (bs : List (List Run)) (i : ℕ) (b : List Run) → i < length bs → take i (set bs i b) ≡ take i bs
take_set bs i b l =
    let size : i ≡ length (take i bs) = sym (length-take-le i bs (omega (arith, l))) in
    ap (take i) (set_split bs i b l) ∙ (ap (λ k. take k (take i bs ++ b ∷ drop (suc i) bs)) size ∙ take-front (take i bs) (b ∷ drop (suc i) bs))

pub drop_set : (bs : List (List Run)) (i : ℕ) (b : List Run) → i < length bs → drop (i + 1) (set bs i b) ≡ drop (i + 1) bs
drop_set bs i b l =
    let size : length (take i bs) ≡ i = length-take-le i bs (omega (arith, l)) in
    let next : suc i ≡ i + 1 = omega arith in
    let long : i + 1 ≡ length (take i bs) + 1 = omega (arith, size) in
    ap (drop (i + 1)) (set_split bs i b l)
    ∙ (ap (λ k. drop k (take i bs ++ b ∷ drop (suc i) bs)) long
    ∙ (sym (drop-drop 1 (length (take i bs)) (take i bs ++ b ∷ drop (suc i) bs))
    ∙ (ap (drop 1) (drop-front (take i bs) (b ∷ drop (suc i) bs)) ∙ ap (λ k. drop k bs) next)))
