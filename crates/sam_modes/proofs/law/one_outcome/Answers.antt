use Rattle.sam_modes.proofs.Unique.{one_outcome_of}
use Rattle.sam_modes.proofs.law.one_outcome.Goals as goal

pub returns : goal.returns
returns c = one_outcome_of (record { says = c.frame_says_t.ensures; one = c.one_frame_t.ensures })
