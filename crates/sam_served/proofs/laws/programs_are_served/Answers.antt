use Rattle.sam_served.proofs.Programs.{programs_are_served}
use Rattle.sam_served.proofs.laws.programs_are_served.Goals as goal

pub returns : goal.returns
returns c = programs_are_served
