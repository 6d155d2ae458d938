use Rattle.sam_link.proofs.SessionLaws.{links_carry}
use Rattle.sam_link.proofs.laws.links_carry.Goals as goal

pub returns : goal.returns
returns c = links_carry
