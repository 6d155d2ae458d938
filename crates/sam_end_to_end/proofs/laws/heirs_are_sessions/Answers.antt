use Rattle.sam_end_to_end.proofs.Heirs.{heirs_are_sessions}
use Rattle.sam_end_to_end.proofs.laws.heirs_are_sessions.Goals as goal

pub returns : goal.returns
returns c = heirs_are_sessions
