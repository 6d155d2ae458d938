-- Lists by place.
use Rattle.sam_queue.proofs.Common.{◌≡◌, ◌≢◌, ℕ, zero, suc, ◌<◌, List, [], ◌∷◌, ◌++◌, length, set, Some, slice_get, All, ◌⊎◌, refl, arith, some, get_elem?, All-nil, All-cons, All-tail}

module _ {A : Type 0} where
  pub there : (l : List A) (i : ℕ) → i < length l → (a : A) × (get_elem? l i ≡ some a)
  there [] i less = absurd (omega arith)
  there (x ∷ xs) zero less = (x, refl)
  there (x ∷ xs) (suc i) less = there xs i (omega arith)

  pub get_between : (xs : List A) (x : A) (ys : List A) → slice_get (xs ++ x ∷ ys) (length xs) ≡ Some x
  get_between [] x ys = refl
  get_between (z ∷ xs) x ys = get_between xs x ys

  pub get_set : (l : List A) (i : ℕ) (a b : A) (k : ℕ) → slice_get (set l i a) k ≡ Some b → ((k ≡ i) × (a ≡ b)) ⊎ ((k ≢ i) × (slice_get l k ≡ Some b))
  get_set (x ∷ xs) (suc i) a b (suc k) e = grind (arith, (get_set xs i a b k e))
  get_set l i a b k e = grind arith

  pub found_at : (l : List A) (k : ℕ) → k < length l → (a : A) × (slice_get l k ≡ Some a)
  found_at [] k less = absurd (omega arith)
  found_at (x ∷ xs) zero less = (x, refl)
  found_at (x ∷ xs) (suc k) less = found_at xs k (omega arith)

  pub all_by_place : (P : A → Type 0) (l : List A) → ((k : ℕ) (a : A) → slice_get l k ≡ Some a → P a) → All P l
  all_by_place P [] each = All-nil P
  all_by_place P (x ∷ xs) each = All-cons P x xs (each 0 x refl) (all_by_place P xs (λ k a is. each (suc k) a is))

  pub all_right : (P : A → Type 0) (xs ys : List (A)) → All P (xs ++ ys) → All P ys
  all_right P [] ys all = all
  all_right P (x ∷ xs) ys all = all_right P xs ys (All-tail P x (xs ++ ys) all)
