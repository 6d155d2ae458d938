-- Laws for callers.
use Rattle.sam_queue.proofs.Common.{◌≡◌, ℕ, None, arith, List, [], ◌∷◌, ◌++◌, append-nil, Entry, items_of}
use Rattle.sam_queue.proofs.Sorts.{items_of-append}

module _ {T : Type 0} where
  pub items_of_mark : (k : ℕ) (h : List (Entry T)) (e : Entry T) → e.load ≡ None → items_of k (h ++ e ∷ []) ≡ items_of k h
  items_of_mark k h e load = grind (arith, (items_of-append k h (e ∷ [])), append-nil)
