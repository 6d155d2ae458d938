use Rattle.sam_client.specs.Going.{Moves}
use Rattle.sam_client.proofs.client.Client.go_on.Given as goal

abbrev pub invariant-moves : goal.invariant-moves
invariant-moves l = Moves l.fn.now l._made l.fn.self l.self
