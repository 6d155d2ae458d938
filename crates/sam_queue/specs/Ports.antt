-- What the pass of an end knows, as the private functions say it. No public clause rests on it.
use Rattle.std.specs.Prelude.{◌≡◌, ℕ, ◌<◌, Bool, List, [], ◌++◌, length, Option, Some, None, All}
use mathlib.Core.Option.{some}
use lib.ListN.{get_elem?}
use Rattle.sam_queue.specs.declared.rule.Entry.{Entry}
use Rattle.sam_queue.specs.declared.rule.Sent.{Sent}
use Rattle.sam_queue.specs.declared.rule.Received.{Received}
use Rattle.sam_queue.specs.declared.rule.Port.{Port}
use Rattle.sam_queue.specs.declared.take.Got.{Got}
use Rattle.sam_queue.specs.declared.take.Got.TheVariants.{Item, Left, Ended, Empty}
use Rattle.sam_queue.specs.declared.rule.Port.TheVariants.{Sends, Receives, Spent}
use Rattle.sam_queue.specs.History.{loads, all_of, StartsWith}
use Rattle.sam_queue.specs.Views.{LineView, PostView, TakeView, Answers, with_item, closed_post}

module _ {T : Type 0} where
  -- the post once an item or its end mark was put
  abbrev pub post_with : PostView T → Option T → PostView T
  post_with p (Some m) = with_item p m
  post_with p None = closed_post p

  -- the answer that an entry is
  abbrev pub got_from : ℕ → Option T → Got T
  got_from i (Some m) = Item i m
  got_from i None = Left i

  abbrev pub got_of : Entry T → Got T
  got_of e = got_from e.sender e.load

  -- an entry was taken, and this is it
  abbrev pub Gives : TakeView T → Got T → TakeView T → Type 0
  Gives before (Item i m) after = Answers before (Item i m) after
  Gives before (Left i) after = Answers before (Left i) after
  Gives before Ended after = ⊥
  Gives before Empty after = ⊥

  -- what a post has put
  abbrev pub put_in : Port T → List T
  put_in (Sends s) = s.put
  put_in (Receives r) = []
  put_in Spent = []

  -- what the pass of a post knows, and what contracts see of it
  abbrev pub sent_of : PostView T → Sent T
  sent_of p = record { number = p.number; senders = p.line.senders; put = p.put; closed = p.closed }

  abbrev pub post_in : LineView → ℕ → Bool → Port T → PostView T
  post_in line number closed v = record { line = line; number = number; put = put_in v; closed = closed }

  -- what was taken, and how far the history was seen
  abbrev pub taken_in : Port T → List (Entry T)
  taken_in (Sends s) = []
  taken_in (Receives r) = r.taken
  taken_in Spent = []

  abbrev pub seen_in : Port T → List (Entry T)
  seen_in (Sends s) = []
  seen_in (Receives r) = r.seen
  seen_in Spent = []

  -- what the pass of a take knows, and what contracts see of it
  abbrev pub received_of : TakeView T → Received T
  received_of t = record { senders = t.line.senders; made = t.line.senders; taken = t.taken; seen = t.seen; gathered = [] }

  abbrev pub take_in : LineView → Port T → TakeView T
  take_in line v = record { line = line; taken = taken_in v; seen = seen_in v }

  -- the pass of a take whose line has n senders, when the first posts are made
  abbrev pub maker : ℕ → ℕ → Port T
  maker n made = Receives (record { senders = n; made = made; taken = []; seen = []; gathered = [] })

  -- the pass of a take of n senders that has taken in no post
  abbrev pub HasNoPosts : ℕ → Port T → Type 0
  HasNoPosts n (Sends s) = ⊥
  HasNoPosts n (Receives r) = (r.senders ≡ n) × (r.gathered ≡ [])
  HasNoPosts n Spent = ⊥

  -- that pass when it has taken in posts that have put this
  abbrev pub with_posts : Port T → List (Sent T) → Port T
  with_posts (Sends s) all = Sends s
  with_posts (Receives r) all = Receives (record r { gathered = r.gathered ++ all })
  with_posts Spent all = Spent

  -- the pass of a take that has taken in each post
  abbrev pub HasAllPosts : Port T → Type 0
  HasAllPosts (Sends s) = ⊥
  HasAllPosts (Receives r) = length r.gathered ≡ r.senders
  HasAllPosts Spent = ⊥

  -- that pass when more was taken
  abbrev pub took_all : Port T → List (Entry T) → List (Entry T) → Port T
  took_all (Sends s) more seen = Sends s
  took_all (Receives r) more seen = Receives (record r { taken = r.taken ++ more; seen = seen })
  took_all Spent more seen = Spent

  -- what was taken and these entries are the whole history, which begins as it was seen
  abbrev pub IsRest : Port T → List (Entry T) → Type 0
  IsRest (Sends s) more = ⊥
  IsRest (Receives r) more =
      ((p : ℕ) (s : Sent T) → get_elem? r.gathered p ≡ some s → loads p (r.taken ++ more) ≡ all_of s.put s.closed)
      × All (λ e. e.sender < r.senders) (r.taken ++ more) × StartsWith (r.taken ++ more) r.seen
  IsRest Spent more = ⊥
