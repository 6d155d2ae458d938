use Rattle.sam_session.proofs.Sessions.{printed}
use Rattle.sam_session.proofs.threading.session_lines.Goals as goal

pub returns-clause-ok : goal.returns-clause-ok
returns-clause-ok g c =
    let settled = c.in-Ok.ensures in
    let told = c.in-Ok-lines_of.ensures in
    printed c.args.script c.run_threads_once.new.script c.in-Ok.settled c.in-Ok-lines_of.lines.items settled.session settled.used told.whole told.lines
