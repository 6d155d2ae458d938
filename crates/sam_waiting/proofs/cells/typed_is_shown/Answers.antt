use Rattle.sam_pending.proofs.CellLaws.{shown_replaced, rasp_replaced}
use Rattle.sam_waiting.proofs.cells.typed_is_shown.Goals as goal

pub returns : goal.returns
returns c = record { shown = shown_replaced; rasp = rasp_replaced }
