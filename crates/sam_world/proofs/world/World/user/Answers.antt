use Rattle.sam_world.proofs.Keeping.{kept_user}
use Rattle.sam_world.proofs.world.World.user.Goals as goal

pub invariant_of-self-2 : goal.invariant_of-self-2
invariant_of-self-2 c =
    kept_user _ c.args.e c.user.new.self c.self.invariant c.in-Ok.ensures.held
