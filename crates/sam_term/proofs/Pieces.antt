-- The pieces of a text, and what an Edit composes.
use native.Mathlib.Nat.{div-add-mod', mod-lt}
use Rattle.std.proofs.Common.{leb-true, leb-false, nat_le, ◌*◌, ◌/◌, ◌%◌}
use Rattle.std.proofs.lemmas.List.{nil_from_length}
use Rattle.sam_term.proofs.Common.{◌≡◌, refl, sym, ap, ◌∙◌, ℕ, zero, suc, ◌+◌, ◌<◌, ◌≤◌, ◌++◌, ◌==◌, ◌&&◌, Bool, true, false, List, [], ◌∷◌, length, take, drop, arith, length-take, length-drop, take-append-drop, append-nil, append_assoc, min, nat_eq, is_empty, most_in_message, PlainTerminal, cut_message, event_outcome, flushed, made_by_edit, pieces, typed_pieces, unsent_message, Edit}
use Rattle.sam_term.specs.LockCounts.{locks_taken, takes_command}
use Rattle.sam_term.specs.Replacing.{TypeOn, all_typed, EditComposes, EditOfNothing, EditLocksNothing}

-- ## The pieces

pub pieces-none : (n p : ℕ) → pieces n p [] ≡ []
unfolding pieces
pieces-none zero p = refl
pieces-none (suc n) p = refl

-- the places that are left after a piece
left-few : (c : ℕ) (s : List ℕ) (n : ℕ) → length (c ∷ s) ≤ suc n → length (drop most_in_message (c ∷ s)) ≤ n
left-few c s n l = grind (arith, (length-drop most_in_message (c ∷ s)))

-- as many as there are runes always suffice
pieces-enough : (n k p : ℕ) (s : List ℕ) → length s ≤ n → length s ≤ k → pieces n p s ≡ pieces k p s
unfolding pieces
pieces-enough n k p [] a b = pieces-none n p ∙ sym (pieces-none k p)
pieces-enough (suc n) (suc k) p (c ∷ s) a b =
    ap (λ xs. (p, take most_in_message (c ∷ s)) ∷ xs)
    (pieces-enough n k (p + most_in_message) (drop most_in_message (c ∷ s)) (left-few c s n a) (left-few c s k b))
pieces-enough n k p (c ∷ s) a b = grind arith

pub pieces-next : (p : ℕ) (s : List ℕ) → is_empty s ≡ false
    → pieces (length s) p s ≡ (p, take most_in_message s) ∷ pieces (length (drop most_in_message s)) (p + most_in_message) (drop most_in_message s)
unfolding pieces
pieces-next p [] e = grind arith
pieces-next p (c ∷ s) e =
    ap (λ xs. (p, take most_in_message (c ∷ s)) ∷ xs)
    (pieces-enough (length s) (length (drop most_in_message (c ∷ s))) (p + most_in_message) (drop most_in_message (c ∷ s))
    (left-few c s (length s) (omega arith)) (omega arith))

-- a list from a place on that lies past its end, and its front up to there
drop-past : (n : ℕ) (s : List ℕ) → length s ≤ n → drop n s ≡ []
drop-past n s l = nil_from_length (drop n s) (grind (arith, (length-drop n s)))

take-past : (n : ℕ) (s : List ℕ) → length s ≤ n → take n s ≡ s
take-past n s l = sym (append-nil (take n s)) ∙ (ap (λ r. take n s ++ r) (sym (drop-past n s l)) ∙ take-append-drop n s)

-- the last piece may be shorter
pieces-last : (p m : ℕ) (s : List ℕ) → length s ≤ most_in_message → m ≡ length s → is_empty s ≡ false
    → pieces (length s) p s ≡ (p, take m s) ∷ pieces (length (drop m s)) (p + m) (drop m s)
pieces-last p m s l e some =
    let all = take-past m s (omega (arith, e)) in
    let none = drop-past m s (omega (arith, e)) in
    grind (arith, (pieces-next p s some), (take-past most_in_message s l), (drop-past most_in_message s l), all, none, pieces-none)

-- the next piece, as the code cuts it off
pub pieces-step : (p m : ℕ) (s : List ℕ) → m ≡ min (length s) most_in_message → is_empty s ≡ false
    → pieces (length s) p s ≡ (p, take m s) ∷ pieces (length (drop m s)) (p + m) (drop m s)
pieces-step p m s e some = go (nat_le (length s) most_in_message) refl
  where
    go : (b : Bool) → nat_le (length s) most_in_message ≡ b → pieces (length s) p s ≡ (p, take m s) ∷ pieces (length (drop m s)) (p + m) (drop m s)
    go true h = pieces-last p m s (leb-true (length s) most_in_message h) (grind (arith, (leb-true (length s) most_in_message h))) some
    go false h = let full : m ≡ most_in_message = grind (arith, (leb-false (length s) most_in_message h)) in rw full (pieces-next p s some)

pub pieces-some : (n p : ℕ) (s : List ℕ) → 0 < length (pieces n p s) → is_empty s ≡ false
pieces-some n p [] l = grind (arith, (pieces-none n p))
pieces-some n p (c ∷ s) l = refl

-- after the last piece nothing is left
pub pieces-over : (xs ys : List (ℕ × List ℕ)) (n p : ℕ) (s : List ℕ) → length (pieces n p s) ≡ 0 → xs ++ pieces n p s ≡ ys → xs ≡ ys
pieces-over xs ys n p s l e = sym (append-nil xs) ∙ (ap (λ r. xs ++ r) (sym (nil_from_length (pieces n p s) l)) ∙ e)

-- there are no more than runes
pub pieces-few : (n p : ℕ) (s : List ℕ) → length (pieces n p s) ≤ n
unfolding pieces
pieces-few zero p s = omega arith
pieces-few (suc n) p [] = omega arith
pieces-few (suc n) p (c ∷ s) = omega (arith, pieces-few n (p + most_in_message) (drop most_in_message (c ∷ s)))

-- ## How many there are

pieces-size : (n p : ℕ) (s : List ℕ) → length s ≤ n → (length s ≤ length (pieces n p s) * 512) × (length (pieces n p s) * 512 < length s + 512)
unfolding pieces
pieces-size zero p [] l = (omega arith, omega arith)
pieces-size (suc n) p [] l = (omega arith, omega arith)
pieces-size (suc n) p (c ∷ s) l =
    let rest = pieces-size n (p + most_in_message) (drop most_in_message (c ∷ s)) (left-few c s n l) in
    let size = length-drop most_in_message (c ∷ s) in
    (omega (arith, rest.0, rest.1, size), omega (arith, rest.0, rest.1, size))
pieces-size n p s l = elim l [ ]

parts-are : (x k : ℕ) → x ≤ k * 512 → k * 512 < x + 512 → x / 512 + min 1 (x % 512) ≡ k
parts-are x k a b =
    let less : x % 512 < 512 = mod-lt x (omega arith) in
    grind (arith, (div-add-mod' x 512), less)

pub pieces-count : (p : ℕ) (s : List ℕ) → length s / 512 + min 1 (length s % 512) ≡ length (pieces (length s) p s)
pieces-count p s = let size = pieces-size (length s) p s (omega arith) in parts-are (length s) (length (pieces (length s) p s)) size.0 size.1

-- ## What they type

some-left : (s : List ℕ) → is_empty s ≡ false → 0 < length s
some-left s e = grind arith

type-at : (f n p a : ℕ) (s : List ℕ) → (is_empty s ≡ false → p ≡ a) → TypeOn f a (typed_pieces f (pieces n p s))
unfolding pieces
type-at f zero p a s h = tt
type-at f (suc n) p a [] h = tt
type-at f (suc n) p a (c ∷ s) h =
    let size = length-take most_in_message (c ∷ s) in (
      refl,
      h refl,
      grind (arith, size),
      grind (arith, size),
      type-at f n (p + most_in_message) (a + length (take most_in_message (c ∷ s))) (drop most_in_message (c ∷ s))
          (λ e. grind (arith, size, (h refl), (length-drop most_in_message (c ∷ s)), (some-left (drop most_in_message (c ∷ s)) e))),
    )

all-typed : (f n p : ℕ) (s : List ℕ) → length s ≤ n → all_typed (typed_pieces f (pieces n p s)) ≡ s
unfolding pieces
all-typed f zero p [] l = refl
all-typed f (suc n) p [] l = refl
all-typed f (suc n) p (c ∷ s) l =
    ap (λ r. take most_in_message (c ∷ s) ++ r) (all-typed f n (p + most_in_message) (drop most_in_message (c ∷ s)) (left-few c s n l))
    ∙ take-append-drop most_in_message (c ∷ s)
all-typed f n p s l = elim l [ ]

edit-messages : (t : PlainTerminal) (f p q : ℕ) (s : List ℕ) → (p == q && is_empty s) ≡ false
    → (event_outcome t (Edit f p q s)).1 ≡ unsent_message t.unsent ++ (cut_message f (p, q) ++ typed_pieces f (pieces (length s) p s))
unfolding made_by_edit flushed
edit-messages t f p q s e = grind arith

-- an edit composes the cut of its range and all of its text
pub edit_law : EditComposes
edit_law t f p q s e =
    (typed_pieces f (pieces (length s) p s), edit-messages t f p q s e, type-at f (length s) p p s (λ h. refl), all-typed f (length s) p s (omega arith))

pub edit_idle : EditOfNothing
unfolding made_by_edit
edit_idle t f p = grind (arith, nat_eq)

-- ## Their locks

command-pieces : (f : ℕ) (xs : List (ℕ × List ℕ)) → (f == 0) ≡ false → takes_command (typed_pieces f xs) ≡ false
command-pieces f [] e = refl
command-pieces f (x ∷ xs) e = grind (arith, (command-pieces f xs e))

locks-pieces : (f g : ℕ) (xs : List (ℕ × List ℕ)) → locks_taken g (typed_pieces f xs) ≡ 0
locks-pieces f g [] = refl
locks-pieces f g (x ∷ xs) = grind (arith, (locks-pieces f g xs))

-- an edit takes no lock
pub edit_locks : EditLocksNothing
edit_locks f p q s e =
    (grind (arith, (command-pieces f (pieces (length s) p s) e)), (λ g. grind (arith, (locks-pieces f g (pieces (length s) p s)))))

-- what counting the pieces rests on
pub ruleset count_facts = (pieces-count)

-- what cutting a text in pieces rests on
pub ruleset cut_facts = (append_assoc)
