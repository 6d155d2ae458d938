-- What is left, sorted by sender into lists that have room for it.
use Rattle.sam_queue.proofs.Common.{◌≡◌, ℕ, ◌<◌, ◌≤◌, List, [], ◌∷◌, ◌++◌, length, set, Option, Some, None, slice_get, All, Vec, vec_capacity, filter_map, ap, ◌∙◌, append-nil, length-append, arith, Global, Contains-append_right, filter_map-append, Entry, loads, items_of, IsSortedInto}
use Rattle.sam_queue.proofs.Histories.{loads-append}
use Rattle.sam_queue.proofs.Lists.{get_set}

module _ {T : Type 0} where
  pub items_of-append : (k : ℕ) (xs ys : List (Entry T)) → items_of k (xs ++ ys) ≡ items_of k xs ++ items_of k ys
  items_of-append k xs ys = ap (λ l. filter_map (λ x. x) l) (loads-append k xs ys) ∙ filter_map-append (λ x. x) (loads k xs) (loads k ys)

  length_loads : (k : ℕ) (xs : List (Entry T)) → length (loads k xs) ≤ length xs
  length_loads k [] = omega arith
  length_loads k (e ∷ xs) = grind (arith, (length_loads k xs))

  length_items : (xs : List (Option T)) → length (filter_map (λ x. x) xs) ≤ length xs
  length_items [] = omega arith
  length_items (x ∷ xs) = grind (arith, (length_items xs))

  -- there is room for one more
  pub room_left : (n k : ℕ) (entries after all : List (Entry T)) (e : Entry T) (left : List (Vec T Global)) (v : Vec T Global)
      → IsSortedInto n entries left → slice_get left k ≡ Some v → entries ++ e ∷ after ≡ all → n ≡ length all
      → length v.items < vec_capacity v
  room_left n k entries after all e left v sorted is split many = grind (arith, length_items, length_loads, length-append)

  pub sender_within : (n : ℕ) (before after all : List (Entry T)) (e : Entry T) → All (λ x. x.sender < n) all → before ++ e ∷ after ≡ all → e.sender < n
  sender_within n before after all e within split = grind (arith, (Contains-append_right before (e ∷ after) e))

  -- an end mark adds no item
  pub sorted_mark : (n : ℕ) (entries : List (Entry T)) (left : List (Vec T Global)) (e : Entry T) → IsSortedInto n entries left → e.load ≡ None → IsSortedInto n (entries ++ e ∷ []) left
  sorted_mark n entries left e sorted load k v is = grind (arith, items_of-append, append-nil)

  -- an item is added to the list of its sender
  pub sorted_item : (n : ℕ) (entries : List (Entry T)) (left : List (Vec T Global)) (e : Entry T) (m : T) (old new : Vec T Global)
      → IsSortedInto n entries left → e.load ≡ Some m → slice_get left e.sender ≡ Some old
      → new.items ≡ old.items ++ m ∷ [] → vec_capacity new ≡ vec_capacity old → IsSortedInto n (entries ++ e ∷ []) (set left e.sender new)
  sorted_item n entries left e m old new sorted load was pushed room k v is = grind (arith, items_of-append, append-nil, get_set)
