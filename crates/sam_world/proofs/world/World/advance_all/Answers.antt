use Rattle.sam_world.proofs.Common.{◌≡◌, arith, drain_limit}
use Rattle.sam_world.proofs.Runs.{drained_rest}
use Rattle.sam_world.proofs.world.World.advance_all.Goals as goal

pub returns-then-not-branch-clause-done : goal.returns-then-not-branch-clause-done
returns-then-not-branch-clause-done c =
    let still = rw c.if-not-branch.true at c.in_ok-advance.ensures.advanced in
    rw still.1 (drained_rest c.loop-event._event drain_limit c.args.self.now c.loop-event.self (omega arith) c.loop-event.invariant still.0)

pub returns-clause-done : goal.returns-clause-done
returns-clause-done c = let all : c.loop-event._event ≡ drain_limit = omega arith in rw all at c.loop-event.invariant
