use Rattle.sam_term_worker.proofs.TermKeeping.{kept_went}
use Rattle.sam_term_worker.proofs.term_side.Side.act_once.Goals as goal

pub invariant_of-self : goal.invariant_of-self
invariant_of-self c = kept_went _ _ c.in-Ok.went c.self.invariant (cc) c.in-Ok.ensures.went
