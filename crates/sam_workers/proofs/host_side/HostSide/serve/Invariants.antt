use Rattle.std.proofs.Common.{◌≡◌}
use Rattle.sam_ends.specs.Gates.{LetOn}
use Rattle.sam_workers.proofs.HostWhole.{Going}
use Rattle.sam_workers.proofs.host_side.HostSide.serve.Given as goal

abbrev pub invariant-loop : goal.invariant-loop
invariant-loop g l = record {
  goes_on : (goal.iterator-loop g).can_next l.iterator' × (goal.iterator-loop g).is_finite l.iterator';
  piece : l.self.piece ≡ l.initial.self.piece;
  line : l.take.line ≡ l.initial.take.line;
  going : Going l.initial.self.end l.self.end l.initial.self.post l.self.post l.take.taken;
  let_on : LetOn (g.G.Gate.must_refuse l.gate 2) l.initial.self.end.host.taken l.self.end.host.taken;
}
