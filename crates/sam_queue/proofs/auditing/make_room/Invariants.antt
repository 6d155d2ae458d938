use Rattle.sam_queue.proofs.Common.{◌≡◌, ◌≤◌, [], length, vec_capacity, IsRoom}
use Rattle.sam_queue.proofs.auditing.make_room.Given as goal

abbrev pub invariant-loop : goal.invariant-loop
invariant-loop g l = record {
  many : length l.left.items ≡ l.counter;
  room : IsRoom l.capacity l.left.items;
  space : l.senders ≤ vec_capacity l.left;
  entries : (l.entries.items ≡ []) × (l.capacity ≤ vec_capacity l.entries);
  closed : (l.closed.items ≡ []) × (l.senders ≤ vec_capacity l.closed);
}
