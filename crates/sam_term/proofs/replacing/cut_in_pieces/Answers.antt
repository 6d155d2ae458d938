use Rattle.sam_term.proofs.Common.{arith, refl, append_assoc, length, min}
use Rattle.sam_term.proofs.Pieces.{pieces-some, pieces-step, pieces-over}
use Rattle.sam_term.proofs.replacing.cut_in_pieces.Goals as goal

pub loop-preserved : goal.loop-preserved
loop-preserved c =
    let l = c.loop in
    let some = pieces-some (length l.rest.now) l.place l.rest.now (grind (arith, l.invariant.left, c.loop-test.true)) in
    let step = pieces-step l.place (min (length l.rest.now) 512) l.rest.now refl some in
    record {
      within = grind (arith, l.invariant.within, c.split_at.ensures.front_len, c.split_at.ensures.back_len);
      left = grind (arith, step, l.invariant.left, c.split_at.ensures.front, c.split_at.ensures.back, c.split_at.ensures.front_len);
      all = grind (arith, append_assoc, step, l.invariant.all, c.split_at.ensures.front, c.split_at.ensures.back, c.split_at.ensures.front_len);
    }

pub returns : goal.returns
returns c =
    let l = c.loop in
    pieces-over _ _ (length l.rest.now) l.place l.rest.now (grind (arith, l.invariant.left, c.loop-test.false)) l.invariant.all
