use Rattle.sam_local.proofs.Finding as lemmas
use Rattle.sam_local.proofs.laws.dclick_selects.Goals as goal

pub returns : goal.returns
returns c = lemmas.dclick_selects
