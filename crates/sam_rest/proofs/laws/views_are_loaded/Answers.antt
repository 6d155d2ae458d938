use Rattle.sam_rest.proofs.Loaded.{views_are_loaded}
use Rattle.sam_rest.proofs.laws.views_are_loaded.Goals as goal

pub returns : goal.returns
returns c = views_are_loaded
