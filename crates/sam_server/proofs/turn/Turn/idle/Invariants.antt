use Rattle.sam_server.specs.Turns.{GoesOn, steps_left}
use Rattle.sam_server.proofs.turn.Turn.idle.Given as goal

abbrev pub invariant-loop : goal.invariant-loop
invariant-loop l = GoesOn l.fn.self l.self

abbrev pub decreases-loop : goal.decreases-loop
decreases-loop l = steps_left l.self.server.host
