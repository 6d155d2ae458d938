use Rattle.sam_term_worker.proofs.TermTaking.{kept_answer}
use Rattle.sam_term_worker.proofs.term_side.Side.drop_next.Goals as goal

pub invariant_of-self : goal.invariant_of-self
invariant_of-self g c = kept_answer _ _ c.try_recv.result c.self.invariant (rw (← c.self.view_is) at c.requires.stopped) c.try_recv.ensures.answer
