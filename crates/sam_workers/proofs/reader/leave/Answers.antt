use Rattle.sam_workers.proofs.Passes.{left_told}
use Rattle.sam_workers.proofs.reader.leave.Goals as goal

pub returns-clause-told : goal.returns-clause-told
returns-clause-told g c = left_told _ _ _ _ _ _ _ _ c.requires.so_far c.close.ensures.closed c.drop_rest.ensures.line c.drop_rest.ensures.taken c.requires.one c.drop_rest.ensures.ended
