use Rattle.sam_mesg.proofs.Shapes.{fails_behind}
use Rattle.sam_mesg.proofs.reading.ThenRead.read.Goals as goal

pub returns-in-Err : goal.returns-in-Err
returns-in-Err g c =
    fails_behind c.in-Err.fault g.A.Take.take_at (g.B.Read.read_at c.args.limit) c.args.bytes.now _ c.in-Some.ensures c.in-Err.ensures
