use Rattle.sam_queue.proofs.Common.{◌≡◌, ◌≤◌, [], length, vec_capacity, view, StartsWith, seen_in, took_all}
use Rattle.sam_queue.proofs.auditing.drain.Given as goal

abbrev pub invariant-loop : goal.invariant-loop
invariant-loop g l = record {
  pass_of : l.pass.table_id ≡ l.line.id;
  nothing_out : l.pass.me.1 ≡ [];
  knows : view l.pass ≡ took_all (view l.fn.pass) l.entries.items (seen_in (view l.pass));
  begins : StartsWith (seen_in (view l.pass)) (seen_in (view l.fn.pass));
  room : l.line.capacity ≤ vec_capacity l.entries;
  many : length l.entries.items ≡ l.counter;
}
