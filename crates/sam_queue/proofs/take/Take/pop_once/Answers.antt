use Rattle.sam_queue.proofs.Common.{sym, ap, ◌∙◌, subst, arith, view, Port, TakeView, Takes, Marks, take_in}
use Rattle.sam_queue.proofs.Steps.{takes}
use Rattle.sam_queue.proofs.Tells.{took}
use Rattle.sam_queue.proofs.take.Take.pop_once.Goals as goal

pub try_pop_as-requires-clause-rule : goal.try_pop_as-requires-clause-rule
try_pop_as-requires-clause-rule g c = rw c.self.invariant.2 (takes _ _)

pub returns-in_default : goal.returns-in_default
returns-in_default g c =
    let seen : Port g.row.T.Denot → TakeView g.row.T.Denot = take_in c.self.inside.line.now in
    record { next = tt; none = ap seen c.in_default.ensures.rule ∙ c.self.view_is }

pub invariant_of-self-2 : goal.invariant_of-self-2
invariant_of-self-2 g c =
    let t = took _ c.in-Some.entry _ (subst (λ (v : Port g.row.T.Denot). Takes v c.in-Some.entry (view c.try_pop_as.new.pass)) c.self.invariant.2 c.in-Some.ensures.rule) in
    (grind arith, grind arith, t.knows, c.self.invariant.3, subst (Marks c.noted-got.new.left) (sym t.taken) (c.noted-got.ensures.marks _ c.self.invariant.4))
