use Rattle.std.proofs.Common.{rules}
use Rattle.sam_world.proofs.Common.{ap, sym, ◌∙◌, Event, step_of}
use Rattle.sam_world.proofs.Runs.{run_more}
use Rattle.sam_world.proofs.world.World.run.Goals as goal

pub loop-at-preserved : goal.loop-at-preserved
loop-at-preserved c =
    run_more c.args.self.now c.loop-at.self c.step_as.new.self c.args.events.now c.loop-at.at c.index-events-at.result (search rules) c.loop-at.invariant
    (ap (λ (e : Event). step_of c.loop-at.self e) (sym c.index-events-at.is) ∙ c.in_default.ensures.stepped)
