use Rattle.sam_pending.proofs.TakenLaws.{drops_move_places}
use Rattle.sam_waiting.proofs.cells.places_stay_behind_what_is_left.Goals as goal

pub returns : goal.returns
returns c = drops_move_places
