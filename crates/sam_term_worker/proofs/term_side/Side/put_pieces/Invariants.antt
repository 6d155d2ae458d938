use Rattle.sam_term_worker.specs.TermMoments.{Goes}
use Rattle.sam_term_worker.proofs.term_side.Side.put_pieces.Given as goal

abbrev pub invariant-loop-turn : goal.invariant-loop-turn
invariant-loop-turn g l = record {
  goes_on : (goal.iterator-loop-turn g).can_next l._turn-iterator × (goal.iterator-loop-turn g).is_finite l._turn-iterator;
  goes : Goes l.fn.self l.self;
}
