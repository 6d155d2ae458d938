use Rattle.sam_local.proofs.Opening as lemmas
use Rattle.sam_local.proofs.laws.new_makes.Goals as goal

pub returns : goal.returns
returns c = lemmas.new_makes
