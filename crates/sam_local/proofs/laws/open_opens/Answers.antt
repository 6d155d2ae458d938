use Rattle.sam_local.proofs.Opening as lemmas
use Rattle.sam_local.proofs.laws.open_opens.Goals as goal

pub returns-clause-file : goal.returns-clause-file
returns-clause-file c = lemmas.open_opens
