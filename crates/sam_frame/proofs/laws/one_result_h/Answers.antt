use Rattle.sam_frame.specs.Direction.{host}
use Rattle.sam_frame.proofs.Cuttings.{one_result}
use Rattle.sam_frame.proofs.laws.one_result_h.Goals as goal

pub returns : goal.returns
returns c = one_result host (record { says = c.frame_says_h.ensures; one = c.one_frame_h.ensures })
