use Rattle.sam_rest.specs.Rest.{GoesOn}
use Rattle.sam_rest.proofs.Rule.{steps_left}
use Rattle.sam_rest.proofs.resting.WorldRest.rest.Given as goal

abbrev pub invariant-drains : goal.invariant-drains
invariant-drains l = GoesOn l.initial.self l.self

abbrev pub decreases-drains : goal.decreases-drains
decreases-drains l = steps_left l.self
