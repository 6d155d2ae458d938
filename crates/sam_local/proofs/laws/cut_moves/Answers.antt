use Rattle.sam_local.proofs.Editing as lemmas
use Rattle.sam_local.proofs.laws.cut_moves.Goals as goal

pub returns : goal.returns
returns c = lemmas.cut_moves
