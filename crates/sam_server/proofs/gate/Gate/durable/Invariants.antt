use Rattle.std.proofs.Common.{◌≡◌}
use Rattle.sam_server.specs.Gates.{passed}
use Rattle.sam_server.proofs.gate.Gate.durable.Given as goal

abbrev pub invariant-loop-left : goal.invariant-loop-left
invariant-loop-left l = passed l.left l.self.base l.self.waiting ≡ passed l.count l.initial.self.base l.initial.self.waiting

abbrev pub decreases-loop-left : goal.decreases-loop-left
decreases-loop-left l = l.left
