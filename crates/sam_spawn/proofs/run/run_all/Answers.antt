use Rattle.sam_spawn.proofs.Kept.{kept_ends, kinds_of, refused_some}
use Rattle.sam_spawn.proofs.run.run_all.Goals as goal

pub joined-requires-after_bounds : goal.joined-requires-after_bounds
joined-requires-after_bounds g c κs within = kinds_of c.args.shared.now.gate.now c.args.tasks c.spawn_all-handles.result c.spawn_all-handles.ensures

pub returns-clause-ends : goal.returns-clause-ends
returns-clause-ends g c =
    kept_ends g.G.Gate.may_refuse g.G.Gate.must_refuse c.args.shared.now.gate.now c.args.tasks
    c.spawn_all-handles.result c.joined.result c.requires.tasks c.spawn_all-handles.ensures c.joined.ensures c.begun.result c.begun.ensures.ends

pub returns-clause-timed : goal.returns-clause-timed
returns-clause-timed g c =
    λ timed. refused_some g.G.Gate.may_refuse g.G.Gate.must_refuse c.args.shared.now.gate.now c.args.tasks
    c.spawn_all-handles.result c.joined.result c.requires.tasks c.spawn_all-handles.ensures c.joined.ensures (c.begun.ensures.timed timed)
