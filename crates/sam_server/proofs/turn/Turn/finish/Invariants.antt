use Rattle.std.proofs.Common.{length}
use Rattle.sam_server.specs.Turns.{Nears, left_in}
use Rattle.sam_server.proofs.turn.Turn.finish.Given as goal

abbrev pub invariant-loop : goal.invariant-loop
invariant-loop l = Nears l.fn.self l.self

abbrev pub decreases-loop : goal.decreases-loop
decreases-loop l = length (left_in l.self)
