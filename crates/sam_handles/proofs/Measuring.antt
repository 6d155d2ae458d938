-- Walks over a partial text, member by member.
use Rattle.std.proofs.Common.{◌≡◌, ◌∙◌, refl, sym, ap, ℕ, zero, suc, ◌+◌, ◌<◌, ◌≤◌, List, [], ◌∷◌, get_or, length, drop, Option, Some, None, slice_get, arith}
use Rattle.sam_handles.specs.Measures.{front_runes}

-- ## The runes in front

slice-drop : {X : Type 0} (xs : List X) (p i n : ℕ) → n ≡ p + i → slice_get xs n ≡ slice_get (drop p xs) i
slice-drop xs zero i n is = ap (slice_get xs) (omega (arith, is))
slice-drop [] (suc p) i n is = grind arith
slice-drop (x ∷ xs) (suc p) i zero is = absurd (omega (arith, is))
slice-drop (x ∷ xs) (suc p) i (suc n) is = slice-drop xs p i n (omega (arith, is))

front-here : (cells : List (Option ℕ)) (i c : ℕ) → i ≤ length (front_runes cells) → slice_get cells i ≡ Some (Some c)
    → (i < length (front_runes cells)) × (c ≡ get_or (front_runes cells) i c)
front-here [] i c within is = grind arith
front-here (None ∷ cells) zero c within is = grind arith
front-here (None ∷ cells) (suc i) c within is = absurd (omega (arith, within))
front-here (Some d ∷ cells) zero c within is = grind arith
front-here (Some d ∷ cells) (suc i) c within is = let more = front-here cells i c (omega (arith, within)) is in (omega (arith, more.0), more.1)

front-stops : (cells : List (Option ℕ)) (i : ℕ) → ((c : ℕ) → slice_get cells i ≡ Some (Some c) → ⊥) → length (front_runes cells) ≤ i
front-stops [] i none = omega arith
front-stops (None ∷ cells) i none = omega arith
front-stops (Some d ∷ cells) zero none = absurd (none d refl)
front-stops (Some d ∷ cells) (suc i) none = omega (arith, front-stops cells i none)

-- one more of them stands at a place
pub front-next : (cells : List (Option ℕ)) (p i at c : ℕ) → at ≡ p + i → i ≤ length (front_runes (drop p cells)) → slice_get cells at ≡ Some (Some c)
    → (i < length (front_runes (drop p cells))) × (c ≡ get_or (front_runes (drop p cells)) i c)
front-next cells p i at c is within there = front-here (drop p cells) i c within (sym (slice-drop cells p i at is) ∙ there)

-- or they end there
pub front-end : (cells : List (Option ℕ)) (p i at : ℕ) (o : Option (Option ℕ)) → at ≡ p + i → o ≡ slice_get cells at → ((c : ℕ) → o ≡ Some (Some c) → ⊥)
    → length (front_runes (drop p cells)) ≤ i
front-end cells p i at o is there none = front-stops (drop p cells) i (λ c e. none c (there ∙ slice-drop cells p i at is ∙ e))

pub front-past : (cells : List (Option ℕ)) (p i at : ℕ) → at ≡ p + i → length cells ≤ at → length (front_runes (drop p cells)) ≤ i
front-past cells p i at is past = front-stops (drop p cells) i (λ c e. beyond cells at past c (slice-drop cells p i at is ∙ e))
  where
    beyond : (xs : List (Option ℕ)) (n : ℕ) → length xs ≤ n → (c : ℕ) → slice_get xs n ≡ Some (Some c) → ⊥
    beyond [] n past c e = grind arith
    beyond (x ∷ xs) zero past c e = omega (arith, past)
    beyond (x ∷ xs) (suc n) past c e = beyond xs n (omega (arith, past)) c e
