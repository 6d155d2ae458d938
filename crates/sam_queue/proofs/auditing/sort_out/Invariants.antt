use Rattle.sam_queue.proofs.Common.{◌≡◌, ◌++◌, length, into_iter_items, IsSortedInto}
use Rattle.sam_queue.proofs.auditing.sort_out.Given as goal

abbrev pub invariant-loop-entry : goal.invariant-loop-entry
invariant-loop-entry g l = record {
  goes_on : (goal.iterator-loop-entry g).can_next l.entry-iterator × (goal.iterator-loop-entry g).is_finite l.entry-iterator;
  all : l.yielded ++ into_iter_items l.entry-iterator ≡ l.fn.entries.items;
  many : length l.left.items ≡ length l.fn.left.items;
  sorted : IsSortedInto (length l.fn.entries.items) l.yielded l.left.items;
}
