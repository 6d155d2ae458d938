-- What an audited line says of its posts, and what the line of events carries.
use Rattle.sam_settle.proofs.Common.{◌≡◌, ◌≢◌, ℕ, zero, suc, ◌+◌, ◌^◌, ◌<◌, ◌≤◌, ◌==◌, true, eqb-true, List, [], ◌∷◌, ◌++◌, length, map, Option, Some, None, slice_get, Vec, refl, ap, append-nil, append_assoc, arith, length-append, sum_by, Global, nil_from_length, HFrame, UserEvent, Entry, loads, items_of, has_left, all_of, PostView, TakeView, Each, each_front, frames_in, frame_of_load, Gives, left_of, left_in, Input, User, Host}
use Rattle.std.proofs.lemmas.Bool.Decides.{eqb_tells}
use Rattle.std.proofs.lemmas.List.Sums.{sum_by-cons}
use Rattle.sam_queue.specs.Audits.{AllAccounted, HasHistory}
use Rattle.sam_queue.proofs.Histories.{loads_mine, loads_other, loads-append, none_after_mark, items_said}
use Rattle.sam_queue.proofs.Lists.{found_at}
use Rattle.sam_apart.proofs.RealLaws.{each_of_all}

-- ## Lists

pub nothing_counted : {A : Type 0} (xs : List A) → (length xs == 0) ≡ true → xs ≡ []
nothing_counted xs e = nil_from_length xs (eqb-true (length xs) 0 e)

pub nothing_joined : {A : Type 0} (xs ys : List A) → xs ++ ys ≡ [] → (xs ≡ []) × (ys ≡ [])
nothing_joined [] ys e = (refl, e)
nothing_joined (x ∷ xs) ys e = absurd (cc)

pub pushed_one : {A : Type 0} (none one : List A) (a : A) → none ≡ [] → one ≡ none ++ a ∷ [] → one ≡ a ∷ []
pushed_one none one a start first = grind arith

pub pushed_three : {A : Type 0} (none one two three : List A) (a b c : A)
    → none ≡ [] → one ≡ none ++ a ∷ [] → two ≡ one ++ b ∷ [] → three ≡ two ++ c ∷ [] → three ≡ a ∷ b ∷ c ∷ []
pushed_three none one two three a b c start first second third = grind arith

-- the parts of what was mapped were mapped
pub split_map : {A B : Type 0} (f : A → B) (xs ys : List B) (zs : List A) → xs ++ ys ≡ map f zs
    → (os : List A) × (bs : List A) × (xs ≡ map f os) × (ys ≡ map f bs) × (zs ≡ os ++ bs)
split_map f (x ∷ xs) ys (z ∷ zs) e =
    let r = split_map f xs ys zs (cc) in
    (z ∷ r.0, r.1, cc, r.3, cc)
split_map f xs ys zs e = grind arith

pub same_sums : {A B : Type 0} (f : A → ℕ) (g : B → ℕ) (xs : List A) (ys : List B) → length xs ≡ length ys
    → ((k : ℕ) (x : A) (y : B) → slice_get xs k ≡ Some x → slice_get ys k ≡ Some y → f x ≡ g y) → sum_by f xs ≡ sum_by g ys
same_sums f g (x ∷ xs) (y ∷ ys) many each = omega (arith, sum_by-cons f x xs, sum_by-cons g y ys, each 0 x y refl refl, same_sums f g xs ys (omega arith) (λ k. each (suc k)))
same_sums f g [] [] many each = refl
same_sums f g xs ys many each = absurd (omega arith)

-- ## What a line gives of one of its posts

module _ {T : Type 0} where
  -- what was taken of it, and then what is left, is what it has put; nothing is left where its end mark was taken
  pub record Parts (k : ℕ) (t : TakeView T) (p : PostView T) : Type 0 where
    pub left : List T
    pub items : items_of k t.taken ++ left ≡ p.put
    pub ended : has_left k t.taken ≡ true → left ≡ []

  pub parts_of : (t : TakeView T) (posts : List (PostView T)) → Gives t posts
      → (k : ℕ) (p : PostView T) → slice_get posts k ≡ Some p → k < length posts → p.number ≡ k → Parts k t p
  parts_of t posts g k p is less number =
      let all = g.2 in
      let v = found_at g.0 k (omega (arith, all.many)) in
      let a = all.each k p v.0 is v.1 in
      record { left = v.0.items; items = grind arith; ended = grind arith }

  -- what was taken up to the end mark of a post is all that it put
  pub all_before_mark : (t : TakeView T) (posts : List (PostView T)) → Gives t posts → (k : ℕ) (p : PostView T) → slice_get posts k ≡ Some p
      → (front back : List (Entry T)) → t.taken ≡ front ++ back → has_left k front ≡ true → items_of k front ≡ p.put
  all_before_mark t posts g k p is front back took mark =
      let whole : loads k front ++ (loads k back ++ loads k g.1.rest) ≡ all_of p.put p.closed = grind (arith, append_assoc, loads-append, (g.1.put k p is)) in
      let none = none_after_mark (loads k front) (loads k back ++ loads k g.1.rest) p.put p.closed whole mark in
      grind (arith, append-nil, items_said)

  pub none_left : (k : ℕ) (t : TakeView T) (p : PostView T) → p.number ≡ k → items_of k t.taken ≡ p.put → left_of t p ≡ 0
  none_left k t p number all = grind arith

  pub senders_within : (t : TakeView T) (posts : List (PostView T)) → Gives t posts → Each (λ e. e.sender < t.line.senders) t.taken
  senders_within t posts g = grind (arith, each_front, each_of_all)

  -- ## How many are left

  pub counted_left : (t : TakeView T) (posts : List (PostView T)) (left : List (Vec T Global)) → AllAccounted t.taken posts left → sum_by (λ v. length v.items) left ≡ left_in t posts
  counted_left t posts left all =
      same_sums (λ (v : Vec T Global). length v.items) (left_of t) left posts all.many (λ k v p list post.
      let a = all.each k p v post list in
      omega (arith, ap length a.items, length-append (items_of p.number t.taken) v.items))

  abbrev pub loaded : Option T → List T
  loaded None = []
  loaded (Some x) = x ∷ []

  pub items_mine : (i : ℕ) (e : Entry T) (xs : List (Entry T)) → e.sender ≡ i → items_of i (e ∷ xs) ≡ loaded e.load ++ items_of i xs
  items_mine i e xs is = grind (arith, (loads_mine i e xs is))

  pub items_other : (i : ℕ) (e : Entry T) (xs : List (Entry T)) → e.sender ≢ i → items_of i (e ∷ xs) ≡ items_of i xs
  items_other i e xs ne = grind (arith, (loads_other i e xs ne))

  -- the items of n senders from j on
  sum_from : ℕ → ℕ → List (Entry T) → ℕ
  sum_from j zero r = 0
  sum_from j (suc n) r = length (items_of j r) + sum_from (suc j) n r

  sum_before : (j n : ℕ) (e : Entry T) (r : List (Entry T)) → e.sender < j → sum_from j n (e ∷ r) ≡ sum_from j n r
  unfolding sum_from
  sum_before j zero e r less = refl
  sum_before j (suc n) e r less = grind (arith, items_other, (sum_before (suc j) n e r (omega arith)))

  sum_one_more : (j n : ℕ) (e : Entry T) (r : List (Entry T)) → sum_from j n (e ∷ r) ≤ 1 + sum_from j n r
  unfolding sum_from
  sum_one_more j zero e r = omega arith
  sum_one_more j (suc n) e r = grind (arith, items_mine, length-append, sum_before, items_other, eqb_tells, (sum_one_more (suc j) n e r))

  sum_few : (j n : ℕ) (r : List (Entry T)) → sum_from j n r ≤ length r
  unfolding sum_from
  sum_few j zero r = omega arith
  sum_few j (suc n) [] = let more = sum_few (suc j) n [] in omega arith
  sum_few j (suc n) (e ∷ r) = let one = sum_one_more j (suc n) e r in let more = sum_few j (suc n) r in omega arith

  sum_left : (j : ℕ) (left : List (Vec T Global)) (r : List (Entry T)) → ((k n : ℕ) (v : Vec T Global) → n ≡ j + k → slice_get left k ≡ Some v → v.items ≡ items_of n r)
      → sum_by (λ v. length v.items) left ≡ sum_from j (length left) r
  unfolding sum_from
  sum_left j [] r each = refl
  sum_left j (v ∷ left) r each =
      let more = sum_left (suc j) left r (λ k n u e is. each (suc k) n u (omega arith) is) in
      omega (arith, sum_by-cons (λ (u : Vec T Global). length u.items) v left, ap length (each 0 j v (omega arith) refl))

  -- the line held all of them
  pub left_few : (t : TakeView T) (posts : List (PostView T)) (left : List (Vec T Global)) → HasHistory t posts left → sum_by (λ v. length v.items) left ≤ t.line.capacity
  left_few t posts left h =
      omega (arith, sum_left 0 left h.rest (λ k n v e is. grind (arith, (h.left_is k v is))), sum_few 0 (length left) h.rest, h.few)

-- ## The line of events

loaded_user : (o : Option Input) (os : List UserEvent) → loaded o ≡ map User os → frame_of_load o ≡ []
loaded_user (Some (Host frame)) (a ∷ os) e = let h : Host frame ≡ User a = cc in absurd (cc)
loaded_user o os e = grind arith

loaded_frame : (o : Option Input) (os : List HFrame) → loaded o ≡ map Host os → frame_of_load o ≡ os
loaded_frame o [] e = grind arith
loaded_frame o (a ∷ []) e = grind arith
loaded_frame o (a ∷ b ∷ os) e = grind arith

-- keyboard and mouse put events and the host reader frames: the frames among what was taken are those of the host reader
pub frames_taken : (entries : List (Entry Input)) (keys clicks : List UserEvent) (frames : List HFrame) → Each (λ e. e.sender < 3) entries
    → items_of 0 entries ≡ map User keys → items_of 1 entries ≡ map User clicks → items_of 2 entries ≡ map Host frames → frames_in entries ≡ frames
frames_taken [] keys clicks [] within k c f = refl
frames_taken [] keys clicks (x ∷ frames) within k c f = absurd (cc)
frames_taken (e ∷ entries) keys clicks frames within k c f = grind (
  arith,
  (split_map User (loaded e.load) (items_of 0 entries) keys),
  (loaded_user e.load),
  (split_map User (loaded e.load) (items_of 1 entries) clicks),
  (split_map Host (loaded e.load) (items_of 2 entries) frames),
  (loaded_frame e.load),
  (frames_taken entries),
)

module _ {T : Type 0} where
  -- ## What an audit of these posts says

  pub audited_few : (t : TakeView T) (real : List (PostView T)) (left shown : List (Vec T Global)) → HasHistory t real left → shown ≡ left → t.line.capacity < 2 ^ 64
      → sum_by (λ v. length v.items) shown < 2 ^ 64
  audited_few t real left shown history same bound = grind (arith, (left_few t real left history))

  pub audited_count : (t : TakeView T) (posts real : List (PostView T)) (left shown : List (Vec T Global)) (n : ℕ) → real ≡ posts → AllAccounted t.taken real left → shown ≡ left
      → n ≡ sum_by (λ v. length v.items) shown → n ≡ left_in t posts
  audited_count t posts real left shown n same all list counted = grind (arith, counted_left)
