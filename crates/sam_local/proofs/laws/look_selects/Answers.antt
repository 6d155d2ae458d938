use Rattle.sam_local.proofs.Finding as lemmas
use Rattle.sam_local.proofs.laws.look_selects.Goals as goal

pub returns-clause-found : goal.returns-clause-found
returns-clause-found c = lemmas.look_selects
