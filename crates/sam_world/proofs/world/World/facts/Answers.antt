use Rattle.sam_local.proofs.Runs.{was_as_if_local}
use Rattle.sam_world.proofs.Stopping.{order_of}
use Rattle.sam_world.proofs.world.World.facts.Goals as goal

pub returns-clause-order : goal.returns-clause-order
returns-clause-order c = order_of c.args.self.now (rw c.self.view_is at c.self.invariant.reached)

pub returns-clause-local : goal.returns-clause-local
returns-clause-local c = was_as_if_local c.args.self.now (rw c.self.view_is at c.self.invariant.reached)
