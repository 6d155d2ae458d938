use Rattle.std.proofs.Common.{arith}
use Rattle.sam_c.proofs.Replaying.{shown, faulted}
use Rattle.sam_c.proofs.scripts.sam_replay.Goals as goal

pub returns-in-Ok : goal.returns-in-Ok
returns-in-Ok c = grind (arith, shown)

pub returns-in-Err : goal.returns-in-Err
returns-in-Err c = grind (arith, faulted)
