-- Cutting and putting in, part by part.
use Rattle.sam_rasp.proofs.Common.{◌≡◌, ap, ℕ, zero, suc, ◌+◌, ◌-◌, ◌≤◌, List, [], ◌∷◌, ◌++◌, take, drop, length, arith, append_assoc, take-append-le, drop-append-le, length-append, length-take, length-drop, take-append-drop, append-nil, PartialText, del, ins, ◌∙◌, drop_all, drop-drop, drop-take, take-take, map, Some, Option, refl, map-append}
use Rattle.sam_rasp.specs.Rasp.{put_cells}

pub take-past : {X : Type 0} (a y : List X) (k n : ℕ) → length a + k ≡ n → take n (a ++ y) ≡ a ++ take k y
take-past (x ∷ a) y k (suc n) e = ap (λ z. x ∷ z) (take-past a y k n (omega (arith, e)))
take-past a y k n e = grind arith

pub drop-past : {X : Type 0} (a y : List X) (k n : ℕ) → length a + k ≡ n → drop n (a ++ y) ≡ drop k y
drop-past (x ∷ a) y k (suc n) e = drop-past a y k n (omega (arith, e))
drop-past a y k n e = grind arith

put-first : (a b m : PartialText) (p q : ℕ) → p ≤ q → q ≤ length a → put_cells a p q m ++ b ≡ put_cells (a ++ b) p q m
put-first a b m p q o l = grind (arith, (take-append-le p a b), (drop-append-le q a b l), (append_assoc (take p a ++ m) (drop q a) b))

put-past : (a b m : PartialText) (p q i j : ℕ) → length a + i ≡ p → length a + j ≡ q → a ++ put_cells b i j m ≡ put_cells (a ++ b) p q m
put-past a b m p q i j e u = grind (
  arith,
  (take-past a b i p e),
  (drop-past a b j q u),
  (append_assoc a (take i b ++ m) (drop j b)),
  (append_assoc a (take i b) m),
)

pub del-first : (a b : PartialText) (p q : ℕ) → p ≤ q → q ≤ length a → del a p q ++ b ≡ del (a ++ b) p q
del-first a b p q o l = grind (arith, (take-append-le p a b), (drop-append-le q a b l), (append_assoc (take p a) (drop q a) b))

pub del-past : (a b : PartialText) (p q i j : ℕ) → length a + i ≡ p → length a + j ≡ q → a ++ del b i j ≡ del (a ++ b) p q
del-past a b p q i j e u = grind (arith, (take-past a b i p e), (drop-past a b j q u), (append_assoc a (take i b) (drop j b)))

-- ## A change in one of three parts

pub put-middle : (a b c b' m : PartialText) (p q i j : ℕ) → length a + i ≡ p → length a + j ≡ q → i ≤ j → j ≤ length b → b' ≡ put_cells b i j m
    → a ++ (b' ++ c) ≡ put_cells (a ++ (b ++ c)) p q m
put-middle a b c b' m p q i j le lu o l e = ap (λ x. a ++ (x ++ c)) e ∙ (ap (λ x. a ++ x) (put-first b c m i j o l) ∙ put-past a (b ++ c) m p q i j le lu)

pub del-middle : (a b c b' : PartialText) (p q i j : ℕ) → length a + i ≡ p → length a + j ≡ q → i ≤ j → j ≤ length b → b' ≡ del b i j
    → a ++ (b' ++ c) ≡ del (a ++ (b ++ c)) p q
del-middle a b c b' p q i j le lu o l e = ap (λ x. a ++ (x ++ c)) e ∙ (ap (λ x. a ++ x) (del-first b c i j o l) ∙ del-past a (b ++ c) p q i j le lu)

-- what comes in where something went
pub put-is : (t m : PartialText) (p q : ℕ) → p ≤ q → q ≤ length t → ins (del t p q) p m ≡ put_cells t p q m
put-is t m p q l w =
    let whole : length (take p t) + 0 ≡ p = omega (arith, length-take p t, l, w) in
    grind (arith, (take-past (take p t) (drop q t) 0 p whole), (drop-past (take p t) (drop q t) 0 p whole), (append-nil (take p t)))

-- what goes at one place in two steps
pub del-twice : (r : PartialText) (p a b n : ℕ) → a + b ≡ n → p + n ≤ length r → del (del r p (p + a)) p (p + b) ≡ del r p (p + n)
del-twice r p a b n e l =
    let whole : length (take p r) + 0 ≡ p = omega (arith, length-take p r, l) in
    let after : length (take p r) + b ≡ p + b = omega (arith, length-take p r, l) in
    grind (
      arith,
      (take-past (take p r) (drop (p + a) r) 0 p whole),
      (drop-past (take p r) (drop (p + a) r) b (p + b) after),
      (append-nil (take p r)),
      (drop-drop b (p + a) r),
    )

pub length-put : (r m : PartialText) (p q : ℕ) → p ≤ q → q ≤ length r → length (put_cells r p q m) + (q - p) ≡ length r + length m
length-put r m p q o l = omega (arith, length-append (take p r ++ m) (drop q r), length-append (take p r) m, length-take p r, length-drop q r, o, l)

pub length-del : (r : PartialText) (p q : ℕ) → p ≤ q → q ≤ length r → length (del r p q) + (q - p) ≡ length r
length-del r p q o l = omega (arith, length-append (take p r) (drop q r), length-take p r, length-drop q r, o, l)

pub put-nowhere : (m : PartialText) (p q : ℕ) → put_cells [] p q m ≡ m
put-nowhere m zero zero = append-nil m
put-nowhere m zero (suc q) = append-nil m
put-nowhere m (suc p) zero = append-nil m
put-nowhere m (suc p) (suc q) = append-nil m

pub length-ins : (r m : PartialText) (p : ℕ) → p ≤ length r → length (ins r p m) ≡ length r + length m
length-ins r m p l = omega (arith, length-put r m p p (omega arith) l)

-- runes that come in before others go
pub put-after : (r m : PartialText) (p q : ℕ) → p ≤ q → q ≤ length r → del (ins r q m) p (p + (q - p)) ≡ put_cells r p q m
put-after r m p q o l =
    let step : p + (q - p) ≡ q = omega (arith, o) in
    let whole : length (take q r) + 0 ≡ q = omega (arith, length-take q r, l) in
    let place : length (take p (take q r)) ≡ p = omega (arith, length-take p (take q r), length-take q r, o, l) in
    grind (
      arith,
      step,
      (append_assoc (take q r) m (drop q r)),
      (take-append-le p (take q r) (m ++ drop q r)),
      (take-take p q r o),
      (drop-past (take q r) (m ++ drop q r) 0 q whole),
      (append_assoc (take p r) m (drop q r)),
    )

pub length-some : (s : List ℕ) → length (map {B = Option ℕ} Some s) ≡ length s
length-some [] = refl
length-some (c ∷ s) = ap suc (length-some s)

-- one more piece of a text
pub one-more : (old r new : PartialText) (p at end : ℕ) (t : List ℕ) → at ≤ end → end ≤ length t → p ≤ length old → r ≡ ins old p (map Some (take at t))
    → new ≡ put_cells r (p + at) (p + at + 0) (map Some (take (end - at) (drop at t))) → new ≡ ins old p (map Some (take end t))
one-more old r new p at end t o l w e u =
    let a = take p old ++ map Some (take at t) in
    let m = map Some (take (end - at) (drop at t)) in
    let len : length a + 0 ≡ p + at =
    omega (arith, length-append (take p old) (map Some (take at t)), length-take p old, length-some (take at t), length-take at t, o, l, w) in
    let text : take end t ≡ take at t ++ take (end - at) (drop at t) =
    grind (arith, (take-take at end t o), (drop-take at (end - at) t), (take-append-drop at (take end t))) in
    let none : p + at + 0 ≡ p + at = omega arith in
    grind (
      arith,
      none,
      (take-past a (drop p old) 0 (p + at) len),
      (drop-past a (drop p old) 0 (p + at) len),
      (append-nil a),
      text,
      (map-append Some (take at t) (take (end - at) (drop at t))),
      (append_assoc (take p old) (map Some (take at t)) m),
    )

pub nil-of : (r : PartialText) → length r ≡ 0 → r ≡ []
nil-of [] e = refl
nil-of (x ∷ r) e = absurd (omega (arith, e))

-- what comes in where nothing is
pub put-alone : (r m : PartialText) (p q : ℕ) → length r ≡ 0 → put_cells r p q m ≡ m
put-alone r m p q e = ap (λ z. put_cells z p q m) (nil-of r e) ∙ put-nowhere m p q

-- all goes
pub del-all : (r s : PartialText) (p n : ℕ) → p + n ≤ length r → n ≡ length r → length s ≡ 0 → s ≡ del r p (p + n)
del-all r s p n l e z =
    let first : p ≡ 0 = omega (arith, l, e) in
    let last : p + n ≡ length r = omega (arith, first, e) in
    nil-of s z ∙ grind (arith, first, last, (drop_all (length r) r))

-- what a row's `remove` rests on
pub ruleset del_facts = (del-all)
