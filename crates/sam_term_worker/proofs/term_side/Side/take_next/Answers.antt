use Rattle.sam_term_worker.proofs.Common.{rules, arith}
use Rattle.sam_term_worker.proofs.TermTaking.{kept_item, kept_keyboard, kept_mouse, kept_reader, kept_gone}
use Rattle.sam_term_worker.proofs.term_side.Side.take_next.Goals as goal

pub invariant_of-self-in-0 : goal.invariant_of-self-in-0
invariant_of-self-in-0 g c = kept_keyboard _ _ c.self.invariant (rw (← c.self.view_is) at c.requires.running) (rw c.in-0.is at c.in-Left.ensures.answer)

pub invariant_of-self-in-1 : goal.invariant_of-self-in-1
invariant_of-self-in-1 g c = kept_mouse _ _ c.self.invariant (rw (← c.self.view_is) at c.requires.running) (rw c.in-1.is at c.in-Left.ensures.answer)

pub invariant_of-self-else-not-exited : goal.invariant_of-self-else-not-exited
invariant_of-self-else-not-exited g c = kept_reader _ _ _ c.self.invariant (rw (← c.self.view_is) at c.requires.running) c.in-Left.ensures.answer

pub invariant_of-self-in-Ok : goal.invariant_of-self-in-Ok
invariant_of-self-in-Ok g c =
    kept_item _ _ _ _ _ _ c.self.invariant (rw (← c.self.view_is) at c.requires.running) c.in-Item.ensures.answer (grind arith) c.in-Ok.ensures

pub invariant_of-self-then-not-exited : goal.invariant_of-self-then-not-exited
invariant_of-self-then-not-exited g c =
    kept_gone _ _ _ c.self.invariant (rw (← c.self.view_is) at c.requires.running) c.in-Left.ensures.answer (omega (arith, c.in_default)) (search rules)
