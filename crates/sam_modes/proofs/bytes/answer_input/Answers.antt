use Rattle.sam_modes.proofs.Common.{arith, length-take, err_from_is_err_and}
use Rattle.sam_modes.proofs.Playing.{begins, goes_on, ends_ok, ends_side, on_side, stops}
use Rattle.sam_modes.proofs.bytes.answer_input.Goals as goal

pub loop-left-init : goal.loop-left-init
loop-left-init g c = begins _ _ _ _ c.requires

pub returns-then-count-eq0-clause-ok : goal.returns-then-count-eq0-clause-ok
returns-then-count-eq0-clause-ok g c = ends_ok _ _ _ _ _ _ _ _ _ _ _ c.loop-left.invariant c.in_ok-count.ensures.bytes c.if-count-eq0.true c.end_of.ensures

pub returns-then-count-eq0-clause-side : goal.returns-then-count-eq0-clause-side
returns-then-count-eq0-clause-side g c = ends_side _ _ _ _ _ _ _ _ _ _ _ c.loop-left.invariant c.in_ok-count.ensures.bytes c.if-count-eq0.true c.end_of.ensures

pub loop-left-preserved : goal.loop-left-preserved
loop-left-preserved g c = grind (arith, length-take, goes_on)

pub returns-in_err-answer_piece-clause-side : goal.returns-in_err-answer_piece-clause-side
returns-in_err-answer_piece-clause-side g c =
    let p = err_from_is_err_and c.from_residual-in_err-answer_piece.result c.from_residual-in_err-answer_piece.ensures.1 in
    rw (p.1, p.2) (on_side _ _ _ (λ s h. stops g.W.Write.contents _ _ _ _ _ _ _ _ _ _ _ s c.loop-left.invariant c.in_ok-count.ensures.bytes.0 h) c.in_err-answer_piece.ensures.side)

pub returns-clause-ok : goal.returns-clause-ok
returns-clause-ok g c = ends_ok _ _ _ _ _ _ _ _ _ _ _ c.loop-left.invariant c.in_ok-read_piece.ensures.bytes (omega (arith, c.if-branch-gt0.false)) c.end_of-2.ensures

pub returns-clause-side : goal.returns-clause-side
returns-clause-side g c = ends_side _ _ _ _ _ _ _ _ _ _ _ c.loop-left.invariant c.in_ok-read_piece.ensures.bytes (omega (arith, c.if-branch-gt0.false)) c.end_of-2.ensures
