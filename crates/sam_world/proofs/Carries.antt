-- What was handled begins what was composed.
use Rattle.sam_world.proofs.Common.{◌≡◌, ℕ, List, [], ◌∷◌, ◌++◌, refl, append_assoc, flat_map, arith, append_cancel_left, Each}
use Rattle.sam_world.specs.Prefixes.{Begins}

-- no frame of a good message begins another good message's frame, and none is empty
pub record PrefixFree {M : Type 0} (good : M → Type 0) (frame : M → List ℕ) : Type 0 where
  pub free : (a b : M) (x y : List ℕ) → good a → good b → frame a ++ x ≡ frame b ++ y → a ≡ b
  pub some : (a : M) → frame a ≡ [] → ⊥

nothing_before : {A : Type 0} (xs ys : List A) → xs ++ ys ≡ [] → xs ≡ []
nothing_before [] ys e = refl
nothing_before (x ∷ xs) ys e = cc

module _ {M : Type 0} (good : M → Type 0) (frame : M → List ℕ) (law : PrefixFree good frame) where
  pub begins_from_bytes : (handled composed : List M) (more : List ℕ) → Each good handled → Each good composed → flat_map frame handled ++ more ≡ flat_map frame composed → Begins handled composed
  begins_from_bytes (m ∷ ms) (c ∷ cs) more hs cs' e = grind (arith, append_assoc, append_cancel_left, (begins_from_bytes ms cs more hs.1 cs'.1))
  begins_from_bytes handled composed more e u w = grind (arith, nothing_before, flat_map, append_assoc)
