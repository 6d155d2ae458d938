use Rattle.sam_line.proofs.ClockLaws.{jumps_say_once}
use Rattle.sam_line.proofs.laws.jumps_say_once.Goals as goal

pub returns : goal.returns
returns c = jumps_say_once
