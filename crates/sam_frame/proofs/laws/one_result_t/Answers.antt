use Rattle.sam_frame.specs.Direction.{terminal}
use Rattle.sam_frame.proofs.Cuttings.{one_result}
use Rattle.sam_frame.proofs.laws.one_result_t.Goals as goal

pub returns : goal.returns
returns c = one_result terminal (record { says = c.frame_says_t.ensures; one = c.one_frame_t.ensures })
