use Rattle.sam_term_worker.proofs.TermKeeping.{kept_new}
use Rattle.sam_term_worker.proofs.term_side.Side.new.Goals as goal

pub invariant_of-result : goal.invariant_of-result
invariant_of-result c = kept_new _ _ _ _ _ c.requires.take c.requires.three c.requires.post c.new.ensures c.requires.stop
