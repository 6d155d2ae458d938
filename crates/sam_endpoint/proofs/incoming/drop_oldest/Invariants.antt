use Rattle.std.proofs.Common.{◌≡◌, ◌≤◌, ◌-◌, drop}
use Rattle.sam_endpoint.proofs.incoming.drop_oldest.Given as goal

abbrev pub invariant-loop-dropped : goal.invariant-loop-dropped
invariant-loop-dropped g l = (l.dropped ≤ l.count) × (l.waiting.items ≡ drop l.dropped l.initial.waiting.items)

abbrev pub decreases-loop-dropped : goal.decreases-loop-dropped
decreases-loop-dropped g l = l.count - l.dropped
