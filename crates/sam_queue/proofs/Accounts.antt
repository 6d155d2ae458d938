-- What an audit says.
use Rattle.sam_queue.proofs.Common.{◌≡◌, ℕ, suc, ◌<◌, ◌≤◌, List, [], ◌∷◌, ◌++◌, length, map, Some, slice_get, All, Vec, sym, ◌∙◌, subst, append-nil, arith, Global, some, get_elem?, slice_get_within, Entry, Port, Receives, loads, items_of, IsEnded, all_of, PostView, TakeView, ArePostsOf, Accounted, AllAccounted, HasHistory, sent_of, received_of, with_posts, IsRest, IsSorted}
use Rattle.sam_queue.proofs.Histories.{loads-append, none_after_mark, items_said, has_mark_said}
use Rattle.sam_queue.proofs.Lists.{found_at, all_by_place, all_right}
use Rattle.sam_queue.proofs.Sorts.{items_of-append}

module _ {T : Type 0} where
  at_sent : (posts : List (PostView T)) (k : ℕ) (p : PostView T) → slice_get posts k ≡ Some p → get_elem? (map sent_of posts) k ≡ some (sent_of p)
  at_sent (x ∷ xs) (suc k) p e = at_sent xs k p e
  at_sent posts k p e = grind arith

  account : (k : ℕ) (taken entries : List (Entry T)) (p : PostView T) (left : List T)
      → p.number ≡ k → loads k (taken ++ entries) ≡ all_of p.put p.closed → left ≡ items_of k entries → Accounted taken p left
  account k taken entries p left number told is = grind (
    arith,
    (loads-append k taken entries),
    (items_of-append k taken entries),
    (items_said p.put p.closed),
    (none_after_mark (loads k taken) (loads k entries) p.put p.closed),
    (append-nil (loads k taken)),
    (has_mark_said p.put p.closed),
  )

  -- what the pass knows of the entries that were drained, once all posts are gathered
  pub drained_of : (old t : TakeView T) (posts : List (PostView T)) (entries : List (Entry T)) (v w : Port T)
      → v ≡ Receives (received_of old) → old ≡ t → w ≡ with_posts v (map sent_of posts) → IsRest w entries → IsRest (with_posts (Receives (received_of t)) (map sent_of posts)) entries
  drained_of old t posts entries v w knows same gathered drained = grind arith

  pub within_left : {m n : ℕ} (taken entries : List (Entry T)) → m ≡ n → All (λ e. e.sender < n) (taken ++ entries) → All (λ e. e.sender < m) entries
  within_left {m} {n} taken entries many within = subst (λ k. All (λ (e : Entry T). e.sender < k) entries) (sym many) (all_right (λ (e : Entry T). e.sender < n) taken entries within)

  pub accounted : (t : TakeView T) (posts : List (PostView T)) (entries : List (Entry T)) (left : List (Vec T Global)) → ArePostsOf t.line posts
      → IsRest (with_posts (Receives (received_of t)) (map sent_of posts)) entries → length left ≡ t.line.senders → IsSorted entries left → AllAccounted t.taken posts left
  accounted t posts entries left of drained many sorted = record {
    many = many ∙ sym of.many;
    each = λ k p v post list. account k t.taken entries p v.items (of.each k p post).1 (drained.0 k (sent_of p) (at_sent posts k p post)) (sorted k v list);
  }

  -- where each sender was seen to leave, nothing is left
  pub nothing_left : (t : TakeView T) (posts : List (PostView T)) (left : List (Vec T Global))
      → ArePostsOf t.line posts → AllAccounted t.taken posts left → IsEnded t.line.senders t.taken → All (λ v. v.items ≡ []) left
  nothing_left t posts left of all ended = all_by_place (λ (v : Vec T Global). v.items ≡ []) left (λ k v list.
      let below : k < length left = slice_get_within left k v list in
      let post = found_at posts k (omega (arith, all.many)) in
      let number : post.0.number ≡ k = (of.each k post.0 post.1).1 in
      let senders = of.many in
      let marked = ended post.0.number (omega (arith, all.many, number)) in
      ((all.each k post.0 v post.1 list).marked marked).1)

  pub has_history : (t : TakeView T) (posts : List (PostView T)) (entries : List (Entry T)) (left : List (Vec T Global))
      → IsRest (with_posts (Receives (received_of t)) (map sent_of posts)) entries → length entries ≤ t.line.capacity → IsSorted entries left → HasHistory t posts left
  has_history t posts entries left drained few sorted = record {
    rest = entries;
    few = few;
    begins = drained.2;
    within = drained.1;
    put = λ k p post. drained.0 k (sent_of p) (at_sent posts k p post);
    left_is = sorted;
  }
