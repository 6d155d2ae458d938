use Rattle.sam_crossing.proofs.frames_move.Goals as goal
use Rattle.sam_crossing.proofs.FrameMoves as moves

pub returns : goal.returns
returns c = record { take = moves.take_law }
