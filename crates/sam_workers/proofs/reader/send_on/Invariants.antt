use Rattle.sam_workers.proofs.Common.{◌≡◌, ◌++◌, length, into_iter_items, sent_on}
use Rattle.sam_ends.specs.Gates.{IsCount, LetOn}
use Rattle.sam_workers.proofs.reader.send_on.Given as goal

abbrev pub invariant-loop-frame : goal.invariant-loop-frame
invariant-loop-frame g l = record {
  sent : l.post ≡ sent_on l.fn.post l.yielded;
  left : l.fn.frames.items ≡ l.yielded ++ into_iter_items l.frame-iterator;
  counted : IsCount l.handled (length l.post.put);
  let_on : LetOn (g.G.Gate.must_refuse l.gate 3) (length l.fn.post.put) (length l.post.put);
}
