use Rattle.sam_local.proofs.Looking as lemmas
use Rattle.sam_local.proofs.laws.empty_dot_keeps.Goals as goal

pub returns : goal.returns
returns c = lemmas.empty_dot_keeps
