use Rattle.sam_line.proofs.ClockLaws.{never_stuck}
use Rattle.sam_line.proofs.laws.never_stuck.Goals as goal

pub returns : goal.returns
returns c = never_stuck
