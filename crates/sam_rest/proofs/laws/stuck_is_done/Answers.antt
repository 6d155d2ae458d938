use Rattle.sam_rest.proofs.Done.{stuck_is_done, done_is_stuck}
use Rattle.sam_rest.proofs.laws.stuck_is_done.Goals as goal

pub returns-clause-done : goal.returns-clause-done
returns-clause-done c = stuck_is_done

pub returns-clause-stuck : goal.returns-clause-stuck
returns-clause-stuck c = done_is_stuck
