use Rattle.sam_world.proofs.Common.{◌≡◌, take, Some, run_of}
use Rattle.sam_world.proofs.world.World.run.Given as goal

abbrev pub invariant-loop-at : goal.invariant-loop-at
invariant-loop-at l = run_of l.initial.self (take l.at l.events) ≡ Some l.self
