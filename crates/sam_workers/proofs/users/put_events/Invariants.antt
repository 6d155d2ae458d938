use Rattle.sam_workers.proofs.Common.{◌≡◌, ◌++◌, length, map, into_iter_items}
use Rattle.sam_ends.specs.Gates.{IsCount, LetOn}
use Rattle.sam_ends.specs.declared.input.Input.TheVariants.{User}
use Rattle.sam_workers.proofs.users.put_events.Given as goal

abbrev pub invariant-loop-event : goal.invariant-loop-event
invariant-loop-event g l = record {
  put : l.post ≡ record l.fn.post { put = map User l.yielded };
  left : l.fn.events.items ≡ l.yielded ++ into_iter_items l.event-iterator;
  counted : IsCount l.handled (length l.post.put);
  let_on : LetOn (g.G.Gate.must_refuse l.gate l.worker) 0 (length l.post.put);
}
