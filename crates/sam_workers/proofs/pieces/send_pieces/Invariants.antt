use Rattle.sam_workers.proofs.Common.{length, PutSome}
use Rattle.sam_workers.proofs.pieces.send_pieces.Given as goal

abbrev pub invariant-loop-rest : goal.invariant-loop-rest
invariant-loop-rest g l = PutSome l.piece l.initial.post l.post l.bytes l.rest

abbrev pub decreases-loop-rest : goal.decreases-loop-rest
decreases-loop-rest g l = length l.rest
