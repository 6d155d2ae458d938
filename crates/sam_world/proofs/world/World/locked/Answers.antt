use Rattle.sam_local.proofs.Runs.{shows_as_if_local}
use Rattle.sam_world.proofs.world.World.locked.Goals as goal

pub returns-clause-local : goal.returns-clause-local
returns-clause-local c = shows_as_if_local c.args.self.now c.args.tag
