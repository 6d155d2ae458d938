use Rattle.sam_rest.proofs.Drains.{goes_to_fault, rest_still}
use Rattle.sam_rest.proofs.resting.WorldRest.rest.Goals as goal

pub returns-in_err-drain-clause-still : goal.returns-in_err-drain-clause-still
returns-in_err-drain-clause-still c = λ rests.
    rest_still c.args.self.now c.drain.new.self
    (goes_to_fault c.args.self.now c.drains.self c.drain.new.self _ c.is_resting.ensures.reached c.drains.invariant c.in_err-drain.ensures.stopped) rests
