use Rattle.sam_session.proofs.SessionLaws.{settled_of}
use Rattle.sam_session.proofs.session.play_tasks.Goals as goal

pub returns-clause-session : goal.returns-clause-session
returns-clause-session g c =
    let ran = c.in_ok-ends.ensures in
    settled_of c.args.tasks (g.G.Gate.may_refuse c.args.gate.now) (g.G.Gate.must_refuse c.args.gate.now) c.in_ok-ends.ends c.settle_run.result
    ran.ends ran.files ran.begun ran.gates ran.let_in ran.let_on c.settle_run.ensures.settled
