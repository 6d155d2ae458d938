use Rattle.sam_workers.proofs.Common.{◌≡◌, ◌++◌, All, IsTrue, into_iter_items, fits_h, TakesAll}
use Rattle.sam_workers.proofs.feeding.take_all.Given as goal

abbrev pub invariant-loop-frame : goal.invariant-loop-frame
invariant-loop-frame l = record {
  fit : All (λ frame. IsTrue (fits_h 2 frame.msg)) (into_iter_items l.frame-iterator);
  left : l.fn.frames.items ≡ l.yielded ++ into_iter_items l.frame-iterator;
  took : TakesAll l.fn.terminal l.yielded l.composed.items l.terminal;
}
