use Rattle.sam_workers.proofs.Common.{length}
use Rattle.sam_ends.specs.Gates.{IsCount, LetOn}
use Rattle.sam_workers.proofs.Passes.{SoFar}
use Rattle.sam_workers.proofs.reader.pass_pieces.Given as goal

abbrev pub invariant-loop-turn : goal.invariant-loop-turn
invariant-loop-turn g l = record {
  goes_on : (goal.iterator-loop-turn g).can_next l._turn-iterator × (goal.iterator-loop-turn g).is_finite l._turn-iterator;
  so_far : SoFar l.fn.take l.take l.fn.post l.post l.framer;
  counted : IsCount l.handled (length l.post.put);
  let_on : LetOn (g.G.Gate.must_refuse l.gate 3) 0 (length l.post.put);
}
