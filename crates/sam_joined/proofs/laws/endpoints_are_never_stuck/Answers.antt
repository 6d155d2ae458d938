use Rattle.sam_joined.proofs.Carrying.{never_stuck}
use Rattle.sam_joined.proofs.laws.endpoints_are_never_stuck.Goals as goal

pub returns : goal.returns
returns c = never_stuck
