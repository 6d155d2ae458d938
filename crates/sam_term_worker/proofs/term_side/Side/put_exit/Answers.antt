use Rattle.sam_term_worker.proofs.Common.{rules, MayExit}
use Rattle.sam_term_worker.proofs.TermKeeping.{kept_exit}
use Rattle.sam_term_worker.proofs.term_side.Side.put_exit.Goals as goal

pub invariant_of-self : goal.invariant_of-self
invariant_of-self c =
    let known : MayExit c.args.self.now = search rules in
    let may = rw (← c.self.view_is) at known in
    kept_exit _ _ c.self.invariant may.running c.in-Ok.ensures.held c.in-Ok.ensures.goes_on may.none_put may.keyboard may.mouse
