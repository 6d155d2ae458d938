-- What is under way in one direction.
use Rattle.std.specs.Prelude.{◌≡◌, ◌++◌, ℕ, List, [], ◌∷◌, ⊤, Option, Some, None}

-- messages, the oldest first, beside the number of further batches for which there is room
pub record RoomyMessages (M : Type 0) : Type 0 where
  pub messages : List M
  pub room : ℕ

-- the first member, where there is one
abbrev pub head : {M : Type 0} → List M → Option M
head [] = None
head (m ∷ ms) = Some m

-- batches one after the other
abbrev pub joined : {M : Type 0} → List (List M) → List M
joined [] = []
joined (batch ∷ batches) = batch ++ joined batches

-- no batch is empty
abbrev pub AreFilled : {M : Type 0} → List (List M) → Type 0
AreFilled [] = ⊤
AreFilled (batch ∷ batches) = (batch ≡ [] → ⊥) × AreFilled batches
