use Rattle.sam_workers.proofs.Passes.{passed, not_passed}
use Rattle.sam_workers.proofs.reader.pass_piece.Goals as goal

pub returns-in-Ok-clause-passes : goal.returns-in-Ok-clause-passes
returns-in-Ok-clause-passes g c = rw (c.or.ensures, c.stop_for.ensures) (passed _ _ _ _ _ _ c.in-Ok.given.fault c.in-Ok.given.place c.send_on.result c.in-Ok.ensures c.send_on.ensures.sends)

pub returns-in-Err-clause-passes : goal.returns-in-Err-clause-passes
returns-in-Err-clause-passes g c = rw c.from.ensures (not_passed c.args.framer.now c.args.piece.now c.give.new.self _ c.in-Err.why c.requires.sound c.in-Err.ensures)
