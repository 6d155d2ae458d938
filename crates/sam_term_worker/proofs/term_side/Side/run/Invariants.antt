use Rattle.std.proofs.Common.{◌≡◌, Some, true, is_some}
use Rattle.sam_ends.specs.Gates.{LetOn}
use Rattle.sam_ends.specs.declared.stop.Stop.TheVariants as stop
use Rattle.sam_term_worker.specs.TermMoments.{Rests}
use Rattle.sam_term_worker.proofs.term_side.Side.run.Given as goal

abbrev pub invariant-loop-turn : goal.invariant-loop-turn
invariant-loop-turn g l = record {
  goes_on : (goal.iterator-loop-turn g).can_next l._turn-iterator × (goal.iterator-loop-turn g).is_finite l._turn-iterator;
  take : l.self.take.line ≡ l.fn.self.take.line;
  post : l.self.post.line ≡ l.fn.self.post.line;
  gate : l.self.stop ≡ Some stop.Gate → g.G.Gate.may_refuse l.gate 4;
  rests : is_some l.fn.self.stop ≡ true → Rests l.fn.self l.self;
  let_on : LetOn (g.G.Gate.must_refuse l.gate 4) l.fn.self.steps l.self.steps;
}
