use Rattle.sam_joined.proofs.ChangesOverCalls.{calls_keep, changes_are_exact, first_change_is_exact, terminals_stay_sound}
use Rattle.sam_joined.proofs.laws.changes_are_exact.Goals as goal

pub returns : goal.returns
returns c = record { sound = terminals_stay_sound; keep = calls_keep; between = changes_are_exact; first = first_change_is_exact }
