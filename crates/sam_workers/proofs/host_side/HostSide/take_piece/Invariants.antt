use Rattle.sam_workers.proofs.Common.{◌≡◌, [], false, Calls, IsGoing, to_do}
use Rattle.sam_ends.specs.Gates.{LetOn}
use Rattle.sam_workers.proofs.host_side.HostSide.take_piece.Given as goal

abbrev pub invariant-loop : goal.invariant-loop
invariant-loop g l = record {
  piece : l.self.piece ≡ l.fn.self.piece;
  closed : l.self.post.closed ≡ false;
  made : Calls l.fn.self.end l.self.end l.fn.self.post l.self.post l.piece [];
  going : IsGoing l.self.end;
  let_on : LetOn (g.G.Gate.must_refuse l.gate 2) l.fn.self.end.host.taken l.self.end.host.taken;
}

abbrev pub decreases-loop : goal.decreases-loop
decreases-loop g l = to_do l.self.end
