use Rattle.sam_world.proofs.Common.{◌≡◌, Some, drained}
use Rattle.sam_world.proofs.world.World.advance_all.Given as goal

abbrev pub invariant-loop-event : goal.invariant-loop-event
invariant-loop-event l = drained l._event l.initial.self ≡ Some l.self
