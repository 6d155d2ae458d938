use Rattle.sam_script.proofs.RunSpelled.{one_script}
use Rattle.sam_script.proofs.laws.one_script.Goals as goal

pub returns : goal.returns
returns c = one_script
