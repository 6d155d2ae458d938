use Rattle.sam_queue.proofs.Common.{◌≡◌, ◌≤◌, ◌++◌, length, map, vec_capacity, into_iter_items, view, IsSamePass, sent_of, with_posts}
use Rattle.sam_queue.proofs.auditing.gather.Given as goal

abbrev pub invariant-loop-post : goal.invariant-loop-post
invariant-loop-post g l = record {
  goes_on : (goal.iterator-loop-post g).can_next l.post-iterator × (goal.iterator-loop-post g).is_finite l.post-iterator;
  all : l.yielded ++ into_iter_items l.post-iterator ≡ l.fn.posts.items;
  same : IsSamePass l.fn.pass l.pass;
  knows : view l.pass ≡ with_posts (view l.fn.pass) (map sent_of l.yielded);
  closed : l.closed.items ≡ map (λ p. p.closed) l.yielded;
  room : length l.fn.posts.items ≤ vec_capacity l.closed;
}
