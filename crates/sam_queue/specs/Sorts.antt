-- How the private functions of an audit sort what is left by its senders.
use Rattle.std.specs.Prelude.{◌≡◌, ℕ, ◌≤◌, List, [], Some, slice_get, Vec, vec_capacity}
use Rattle.std.specs.Global.{Global}
use Rattle.sam_queue.specs.declared.rule.Entry.{Entry}
use Rattle.sam_queue.specs.History.{items_of}

module _ {T : Type 0} where
  -- an empty list for each sender, with room for so many items
  abbrev pub IsRoom : ℕ → List (Vec T Global) → Type 0
  IsRoom n left = (k : ℕ) (v : Vec T Global) → slice_get left k ≡ Some v → (v.items ≡ []) × (n ≤ vec_capacity v)

  -- the items of each sender
  abbrev pub IsSorted : List (Entry T) → List (Vec T Global) → Type 0
  IsSorted entries left = (k : ℕ) (v : Vec T Global) → slice_get left k ≡ Some v → v.items ≡ items_of k entries

  -- the same, with room for so many items in each list
  abbrev pub IsSortedInto : ℕ → List (Entry T) → List (Vec T Global) → Type 0
  IsSortedInto n entries left =
      (k : ℕ) (v : Vec T Global) → slice_get left k ≡ Some v → (v.items ≡ items_of k entries) × (n ≤ vec_capacity v)
