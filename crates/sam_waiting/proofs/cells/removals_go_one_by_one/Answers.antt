use Rattle.sam_pending.proofs.CellLaws.{shown_goes}
use Rattle.sam_waiting.proofs.cells.removals_go_one_by_one.Goals as goal

pub returns : goal.returns
returns c = shown_goes
