use Rattle.sam_local.proofs.Finding as lemmas
use Rattle.sam_local.proofs.laws.search_selects.Goals as goal

pub returns : goal.returns
returns c = lemmas.search_selects
