use Rattle.sam_local.proofs.Lines as lemmas
use Rattle.sam_local.proofs.laws.typing_replaces.Goals as goal

pub returns : goal.returns
returns c = lemmas.typing_replaces
