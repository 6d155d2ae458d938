use Rattle.sam_pending.proofs.PlaceLaws.{removals_move_places}
use Rattle.sam_waiting.proofs.cells.places_stay_behind_their_text.Goals as goal

pub returns : goal.returns
returns c = removals_move_places
