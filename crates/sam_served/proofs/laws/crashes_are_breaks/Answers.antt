use Rattle.sam_served.proofs.Crashing.{crashes_are_breaks, ends_are_made}
use Rattle.sam_served.proofs.laws.crashes_are_breaks.Goals as goal

pub returns-clause-breaks : goal.returns-clause-breaks
returns-clause-breaks c = crashes_are_breaks

pub returns-clause-made : goal.returns-clause-made
returns-clause-made c = ends_are_made
