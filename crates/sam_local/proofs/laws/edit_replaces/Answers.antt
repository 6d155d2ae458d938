use Rattle.sam_local.proofs.Replacing as lemmas
use Rattle.sam_local.proofs.laws.edit_replaces.Goals as goal

pub returns-clause-text : goal.returns-clause-text
returns-clause-text c = lemmas.edit_replaces
