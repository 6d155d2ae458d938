use Rattle.sam_local.proofs.Editing as lemmas
use Rattle.sam_local.proofs.laws.select_sets.Goals as goal

pub returns : goal.returns
returns c = lemmas.select_sets
