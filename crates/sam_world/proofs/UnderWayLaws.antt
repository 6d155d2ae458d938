-- Batches one after the other.
use Rattle.sam_world.proofs.Common.{◌≡◌, List, [], ◌∷◌, ◌++◌, map, append-nil, arith, append_assoc, joined, AreFilled}

pub joined-behind : {B M : Type 0} (items : B → List M) (batches : List B) (batch : B) → joined (map items (batches ++ batch ∷ [])) ≡ joined (map items batches) ++ items batch
joined-behind items [] batch = append-nil (items batch)
joined-behind items (b ∷ bs) batch = grind (arith, append_assoc, (joined-behind items bs batch))

pub filled-behind : {B M : Type 0} (items : B → List M) (batches : List B) (batch : B) → AreFilled (map items batches) → (items batch ≡ [] → ⊥) → AreFilled (map items (batches ++ batch ∷ []))
filled-behind items [] batch filled there = (there, tt)
filled-behind items (b ∷ bs) batch filled there = (filled.0, filled-behind items bs batch filled.1 there)

-- what `join` rests on
pub ruleset join_facts = (filled-behind, joined-behind)
