-- Splices that are handed out from the end of a list.
use Rattle.std.proofs.Common.{◌≡◌, ◌∙◌, refl, ap, ◌==◌, List, [], ◌∷◌, ◌++◌, length, map, drop, reverse, slice_get, Some, None, arith}
use Rattle.std.proofs.lemmas.List.{reverse-append, map-append, length-reverse, length-map}
use Rattle.sam_runes.specs.Texts.{is_empty}

is-empty : {X : Type 0} (xs : List X) → is_empty xs ≡ (length xs == 0)
is-empty [] = refl
is-empty (x ∷ xs) = grind arith

-- none is left
pub empty_of : {X Y : Type 0} (f : X → Y) (xs : List X) → (length xs == 0) ≡ is_empty (reverse (map f xs))
empty_of f xs = grind (arith, is-empty, length-reverse, length-map)

pub ruleset empty_facts = (empty_of)

-- the last one is handed out first
last-first : {X Y : Type 0} (f : X → Y) (xs ys : List X) (x : X) → xs ≡ ys ++ x ∷ [] → reverse (map f xs) ≡ f x ∷ reverse (map f ys)
last-first f xs ys x is = ap (λ zs. reverse (map f zs)) is ∙ ap reverse (map-append f ys (x ∷ [])) ∙ reverse-append (map f ys) (f x ∷ [])

pub taken : {X Y : Type 0} (f : X → Y) (xs ys : List X) (x : X) → xs ≡ ys ++ x ∷ []
    → (slice_get (reverse (map f xs)) 0 ≡ Some (f x)) × (drop 1 (reverse (map f xs)) ≡ reverse (map f ys))
taken f xs ys x is = (ap (λ zs. slice_get zs 0) (last-first f xs ys x is), ap (drop 1) (last-first f xs ys x is))

pub none_taken : {X Y : Type 0} (f : X → Y) (xs ys : List X) → length ys ≡ 0 → xs ≡ ys ++ []
    → (slice_get (reverse (map f xs)) 0 ≡ None) × (drop 1 (reverse (map f xs)) ≡ reverse (map f ys))
none_taken f xs [] none is = grind (arith, is)
none_taken f xs (y ∷ ys) none is = grind arith

pub ruleset next_facts = (taken, none_taken)
