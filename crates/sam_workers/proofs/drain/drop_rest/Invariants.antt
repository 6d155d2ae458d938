use Rattle.sam_workers.proofs.Common.{◌≡◌, StartsWith}
use Rattle.sam_workers.proofs.drain.drop_rest.Given as goal

abbrev pub invariant-loop-turn : goal.invariant-loop-turn
invariant-loop-turn g l = record {
  goes_on : (goal.iterator-loop-turn g).can_next l._turn-iterator × (goal.iterator-loop-turn g).is_finite l._turn-iterator;
  line_is : l.take.line ≡ l.fn.take.line;
  taken : StartsWith l.take.taken l.fn.take.taken;
}
