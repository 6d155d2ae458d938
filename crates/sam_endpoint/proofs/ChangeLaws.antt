-- What is kept of a text stays kept through frames, events and flushes.
use Rattle.std.proofs.Common.{◌≡◌, ◌≢◌, ◌∙◌, refl, sym, ap, subst, ℕ, zero, suc, ◌+◌, ◌-◌, ◌≤◌, ◌⊎◌, inl, inr, min, Bool, true, false, ◌==◌, ◌&&◌, if◌then◌else◌, List, [], ◌∷◌, ◌++◌, length, length-append, length-drop, length-take, take, drop, drop-drop, append-nil, append_assoc, take-append-drop, set, Option, Some, None, arith, rules}
use Rattle.std.proofs.Math.Seq.{drop-append-add, take-append-le, take-take}
use Rattle.std.proofs.lemmas.Grind.{common_steps}
use Rattle.std.proofs.lemmas.List.{get_or-set_other}
use Rattle.sam_rasp.specs.Rasp.{PartialText, put_cells}
use Rattle.sam_endpoint.specs.Changes.{IsChange, IsKept, last, unasked, kept_at, change_of, narrowed, kept_after, edit_touch, KeptTellsChange, UnaskedIsKept, AskingBegins}
use Rattle.sam_endpoint.specs.declared.changes.Kept.{Kept}
use Rattle.sam_endpoint.specs.declared.changes.Touch.{Touch}

-- where nothing was asked for, nothing is kept
pub none_asked : (touch : Option Touch) → kept_after [] touch ≡ []
none_asked None = refl
none_asked (Some t) = refl

-- ## A text that is kept

last-last : (r : PartialText) (m b : ℕ) → m ≤ b → b ≤ length r → drop (b - m) (last b r) ≡ last m r
last-last r m b less within = drop-drop (b - m) (length r - b) r ∙ ap (λ n. drop n r) (omega arith)

-- at most as much as is kept at the end is kept, too
back-less : (old new : PartialText) (b m : ℕ) → m ≤ b → b ≤ length old → b ≤ length new → last b new ≡ last b old → last m new ≡ last m old
back-less old new b m less one other same = sym (last-last new m b less other) ∙ ap (drop (b - m)) same ∙ last-last old m b less one

front-less : (old new : PartialText) (a m : ℕ) → m ≤ a → take a new ≡ take a old → take m new ≡ take m old
front-less old new a m less same = sym (take-take m a new less) ∙ ap (take m) same ∙ take-take m a old less

-- what an edit leaves in front of it and after it
front-put : (r cells : PartialText) (p q m : ℕ) → m ≤ p → p ≤ length r → take m (put_cells r p q cells) ≡ take m r
front-put r cells p q m less within =
    ap (take m) (append_assoc (take p r) cells (drop q r))
    ∙ take-append-le m (take p r) (cells ++ drop q r) (omega (arith, length-take p r))
    ∙ take-take m p r less

length-put : (r cells : PartialText) (p q : ℕ) → p ≤ q → q ≤ length r → length (put_cells r p q cells) ≡ p + length cells + (length r - q)
length-put r cells p q up within =
    omega (arith, length-append (take p r ++ cells) (drop q r), length-append (take p r) cells, length-take p r, length-drop q r)

back-put : (r cells : PartialText) (p q m : ℕ) → p ≤ q → q ≤ length r → m ≤ length r - q → last m (put_cells r p q cells) ≡ last m r
back-put r cells p q m up within less =
    let left = take p r ++ cells in
    let size : length (put_cells r p q cells) - m ≡ length left + (length r - q - m) =
    omega (arith, length-append (take p r ++ cells) (drop q r), length-drop q r) in
    ap (λ n. drop n (left ++ drop q r)) size
    ∙ drop-append-add left (drop q r) (length r - q - m)
    ∙ drop-drop (length r - q - m) q r
    ∙ ap (λ n. drop n r) (omega arith)

-- how far the kept parts reach
front-within : (old new : PartialText) (k : Kept) → IsKept old new k → (k.front ≤ length old) × (k.front ≤ length new) × (k.back ≤ length old) × (k.back ≤ length new)
front-within old new k is = go is.apart
  where
    go : ((k.front + k.back ≤ length old) × (k.front + k.back ≤ length new)) ⊎ ((new ≡ old) × (k.front ≡ length old) × (k.back ≡ length old))
        → (k.front ≤ length old) × (k.front ≤ length new) × (k.back ≤ length old) × (k.back ≤ length new)
    go (inl (one, other)) = (omega arith, omega arith, omega arith, omega arith)
    go (inr (same, front, back)) = let sizes : length new ≡ length old = ap length same in (omega arith, omega arith, omega arith, omega arith)

both-within : (old new : PartialText) (k : Kept) (p q : ℕ) → p ≤ q → q ≤ length new → IsKept old new k
    → (min k.front p + min k.back (length new - q) ≤ length old)
both-within old new k p q up within is = go is.apart
  where
    go : ((k.front + k.back ≤ length old) × (k.front + k.back ≤ length new)) ⊎ ((new ≡ old) × (k.front ≡ length old) × (k.back ≡ length old))
        → min k.front p + min k.back (length new - q) ≤ length old
    go (inl (one, other)) = omega arith
    go (inr (same, front, back)) = let sizes : length new ≡ length old = ap length same in omega arith

-- an edit of a text that is kept
put-keeps : (old new cells : PartialText) (k : Kept) (p q : ℕ) → p ≤ q → q ≤ length new → IsKept old new k
    → IsKept old (put_cells new p q cells) (narrowed k p (length new - q))
put-keeps old new cells k p q up within is =
    let reach = front-within old new k is in
    let a = min k.front p in
    let b = min k.back (length new - q) in
    record {
      len = is.len;
      front = front-put new cells p q a (omega arith) (omega arith) ∙ front-less old new k.front a (omega arith) is.front;
      back = back-put new cells p q b up within (omega arith)
          ∙ back-less old new k.back b (omega arith) reach.2 reach.3 is.back;
      apart = inl (both-within old new k p q up within is, omega (arith, length-put new cells p q up within));
    }

-- the whole of a text gives way
pub whole-keeps : (old new text : PartialText) (k : Kept) → IsKept old new k → IsKept old text (narrowed k 0 0)
whole-keeps old new text k is = search (rules, common_steps, is.len)

pub kept_tells_change : KeptTellsChange
kept_tells_change old new k is = go is.apart
  where
    go : ((k.front + k.back ≤ length old) × (k.front + k.back ≤ length new)) ⊎ ((new ≡ old) × (k.front ≡ length old) × (k.back ≡ length old))
        → IsChange old new (change_of k (length new))
    go (inl (one, other)) = record {
      front = is.front;
      rest = ap (λ n. drop n new) (omega arith) ∙ is.back ∙ ap (λ n. drop n old) (omega (arith, is.len));
      old_end = omega (arith, is.len);
      new_end = omega arith;
    }
    go (inr (same, front, back)) = let sizes : length new ≡ length old = ap length same in record {
      front = is.front;
      rest = ap (λ n. drop n new) (omega arith) ∙ ap (drop (length old)) same ∙ ap (λ n. drop n old) (omega (arith, is.len));
      old_end = omega (arith, is.len);
      new_end = omega arith;
    }

-- ## What is kept of each file, in the list

pub kept-set_same : (ks : List Kept) (f : ℕ) (front back : ℕ) → kept_at (set ks f (narrowed (kept_at ks f) front back)) f ≡ narrowed (kept_at ks f) front back
kept-set_same [] f front back = grind arith
kept-set_same (k ∷ ks) zero front back = refl
kept-set_same (k ∷ ks) (suc f) front back = kept-set_same ks f front back

pub kept-set_other : (ks : List Kept) (f g : ℕ) (k : Kept) → g ≢ f → kept_at (set ks f k) g ≡ kept_at ks g
kept-set_other ks f g k other = get_or-set_other ks f g k unasked other

put-nothing : (r : PartialText) (p : ℕ) → put_cells r p p [] ≡ r
put-nothing r p = ap (λ front. front ++ drop p r) (append-nil (take p r)) ∙ take-append-drop p r

no-cells : (cells : PartialText) → length cells ≡ 0 → cells ≡ []
no-cells [] e = refl
no-cells (c ∷ cells) e = absurd (omega arith)

-- an edit of a text that is kept, by its list
edit-case : (old text : PartialText) (ks : List Kept) (f front back : ℕ) (b : Bool) → (b ≡ true → IsKept old text (kept_at ks f))
    → IsKept old text (narrowed (kept_at ks f) front back)
    → IsKept old text (kept_at (kept_after ks (if b then None else Some (record { tag = f; front = front; back = back }))) f)
edit-case old text ks f front back true same touched = same refl
edit-case old text ks f front back false same touched = subst (λ k. IsKept old text k) (sym (kept-set_same ks f front back)) touched

no-edit : (r cells : PartialText) (p q gone n : ℕ) → q ≡ p + gone → n ≡ length cells → (gone == 0 && n == 0) ≡ true → put_cells r p q cells ≡ r
no-edit r cells p q gone n end many none =
    let at : q ≡ p = grind arith in
    let empty : cells ≡ [] = no-cells cells (grind arith) in
    ap (λ cs. put_cells r p q cs) empty ∙ ap (λ k. put_cells r p k []) at ∙ put-nothing r p

pub edit-keeps : (old r cells : PartialText) (ks : List Kept) (f p q gone n : ℕ) → q ≡ p + gone → q ≤ length r → n ≡ length cells → IsKept old r (kept_at ks f)
    → IsKept old (put_cells r p q cells) (kept_at (kept_after ks (edit_touch f (length r) p gone n)) f)
edit-keeps old r cells ks f p q gone n end within many is =
    let up : p ≤ q = omega (arith, end) in
    let touched = put-keeps old r cells (kept_at ks f) p q up within is in
    edit-case old (put_cells r p q cells) ks f p (length r - (p + gone)) (gone == 0 && n == 0)
    (λ none. subst (λ x. IsKept old x (kept_at ks f)) (sym (no-edit r cells p q gone n end many none)) is)
    (subst (λ k. IsKept old (put_cells r p q cells) (narrowed (kept_at ks f) p (length r - k))) end touched)

pub edit-other : (ks : List Kept) (f g p gone n many : ℕ) → f ≢ g → kept_at (kept_after ks (edit_touch g n p gone many)) f ≡ kept_at ks f
edit-other ks f g p gone n many other = grind (arith, kept-set_other)

pub asking_begins : AskingBegins
asking_begins ks f text = (grind (arith, common_steps), λ g other. grind (arith, common_steps, kept-set_other))

pub unasked_is_kept : UnaskedIsKept
unasked_is_kept text = search (rules, common_steps)
