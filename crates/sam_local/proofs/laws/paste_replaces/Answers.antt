use Rattle.sam_local.proofs.Finding as lemmas
use Rattle.sam_local.proofs.laws.paste_replaces.Goals as goal

pub returns : goal.returns
returns c = lemmas.paste_replaces
